-- Steps by which an end knows no less than before: what was sound stays sound.
use Rattle.std.proofs.Common.{◌≡◌, ◌≤◌, ℕ, true, List, Some, refl, arith}
use Rattle.std.specs.List.{AllByRecursion}
use Rattle.ppp_pair.specs.Pair.{End, Key, Packet, Pair, Request, Response, Waiting, gets, key_of}
use Rattle.ppp_pair.proofs.Invariant.{HasAcked, Half, Holds, IsHeld, IsSound}
use Rattle.ppp_pair.proofs.PacketLemmas.{all_weaker}

-- `e` became `e'`
pub record Grows (e e' : End) : Type 0 where
  pub boots : e'.boots ≡ e.boots
  pub drawn : e.drawn ≤ e'.drawn
  pub waits : (w : Waiting) → e'.waiting ≡ Some w → e.waiting ≡ Some w
  pub acked : (k : Key) → HasAcked k e.past → HasAcked k e'.past
  pub held : (l : ℕ) → IsHeld e l → IsHeld e' l
  pub joined : (l : ℕ) → e.joined l ≡ true → e'.joined l ≡ true

pub grows_not : (e : End) → Grows e e
grows_not e = record {
  boots = refl;
  drawn = omega arith;
  waits = λ w h. h;
  acked = λ k h. h;
  held = λ l h. h;
  joined = λ l h. h;
}

pub sound_grows : (e f e' f' : End) → Grows e e' → Grows f f' → (p : Packet) → IsSound e f p → IsSound e' f' p
sound_grows e f e' f' g k (Request n what) h = record {
  drawn = omega (arith, h.drawn, k.drawn);
  newest = λ w x. h.newest w (k.waits w x);
  same = λ w x o. h.same w (k.waits w x) o;
}
sound_grows e f e' f' g k (Response n t code) h = record {
  drawn = omega (arith, h.drawn, g.drawn);
  newest = λ w x. h.newest w (g.waits w x);
  type = λ w x o. h.type w (g.waits w x) o;
  acked = λ ack. rw g.boots (k.acked (key_of e n) (h.acked ack));
  held = λ ack w l x o d. k.held l (h.held ack w l (g.waits w x) o d);
}

pub coming_grows : (e f e' f' : End) → Grows e e' → Grows f f' → (ps : List Packet) → AllByRecursion (IsSound e f) ps → AllByRecursion (IsSound e' f') ps
coming_grows e f e' f' g k ps h = all_weaker (IsSound e f) (IsSound e' f') (sound_grows e f e' f' g k) ps h

-- the other end grew
pub other_grows : (e f f' : End) → Grows f f' → Half e f → Half e f'
other_grows e f f' g h = record {
  drawn = h.drawn;
  waits = h.waits;
  unwaited = h.unwaited;
  there = h.there;
  marked = h.marked;
  barred = h.barred;
  since = λ l b. g.joined l (h.since l b);
  unclosed = h.unclosed;
  granted = λ k x. g.acked k (h.granted k x);
  coming = coming_grows e f e f' (grows_not e) g e.coming h.coming;
}

-- a packet more is under way
pub gets_more : (e : End) (p : Packet) → Grows e (gets p e)
gets_more e p = record {
  boots = refl;
  drawn = omega arith;
  waits = λ w h. h;
  acked = λ k h. h;
  held = λ l h. h;
  joined = λ l h. h;
}

gets_keeps : (e f : End) (p : Packet) → IsSound e f p → Half e f → Half (gets p e) f
gets_keeps e f p s h = record {
  drawn = h.drawn;
  waits = h.waits;
  unwaited = λ x y before acked wait. h.unwaited x y before acked (record { request = wait.request; waits = wait.waits; key = wait.key });
  there = h.there;
  marked = h.marked;
  barred = h.barred;
  since = h.since;
  unclosed = h.unclosed;
  granted = h.granted;
  coming = (
    sound_grows e f (gets p e) f (gets_more e p) (grows_not f) p s,
    coming_grows e f (gets p e) f (gets_more e p) (grows_not f) e.coming h.coming,
  );
}

-- the first end sent a sound packet
pub sends_keeps : (s : Pair) (p : Packet) → IsSound s.b s.a p → Holds s → Holds (record s { b = gets p s.b })
sends_keeps s p sound h = record {
  of_a = other_grows s.a s.b (gets p s.b) (gets_more s.b p) h.of_a;
  of_b = gets_keeps s.b s.a p sound h.of_b;
  free = h.free;
}
