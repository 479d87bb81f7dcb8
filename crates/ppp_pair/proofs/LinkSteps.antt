-- Links that leave and join, and a reboot, keep the invariant.
use Rattle.std.proofs.Common.{◌≡◌, ◌≢◌, ◌∙◌, ℕ, Bool, true, false, Option, Some, None, inl, inr, ⊎_elim, ap, refl, sym, subst, arith}
use Rattle.std.specs.Prelude.{if◌then◌else◌}
use Rattle.std.proofs.lemmas.Bool.{both_ways, cases_eq, eqb-false, false≢true}
use Rattle.ppp_bap.specs.Requests.{is_drop_of}
use Rattle.ppp_bap.specs.declared.bap_ask.BapAsk.{BapAsk}
use Rattle.ppp_bap.specs.declared.bap_ask.BapAsk.TheVariants.{Call, Callback, Drop}
use Rattle.ppp_pair.specs.Pair.{End, Key, Packet, Pair, Request, Response, Waiting, begins_anew, closes, joins, leaves, reboots, with_link, without_drop}
use Rattle.ppp_pair.proofs.Growth.{Grows, coming_grows, grows_not, other_grows}
use Rattle.ppp_pair.proofs.Invariant.{Half, Holds, IsDrawn, IsHeld, IsSound}
use Rattle.ppp_pair.proofs.LinkLemmas.{link_at, link_else, link_more}
use Rattle.ppp_pair.proofs.PacketLemmas.{all_weaker}

-- ---- a link leaves

-- a request that waits still did before, and isn't to drop the link
pub record IsLeft (l : ℕ) (old : Option Waiting) (w : Waiting) : Type 0 where
  pub was : old ≡ Some w
  pub other : (m : ℕ) → w.what ≡ Drop m → m ≢ l

drops : (l m : ℕ) (what : BapAsk) → is_drop_of l (Some what) ≡ false → what ≡ Drop m → m ≢ l
drops l m Call e is same = cc
drops l m Callback e is same = cc
drops l m (Drop k) e is same = let k_is : k ≡ m = cc in eqb-false k l e (k_is ∙ same)

pub left_waits : (l : ℕ) (old : Option Waiting) (w : Waiting) → without_drop l old ≡ Some w → IsLeft l old w
left_waits l None w e = cc
left_waits l (Some v) w e = by (is_drop_of l (Some v.what)) refl e where
  by : (b : Bool) → is_drop_of l (Some v.what) ≡ b → (if b then None else Some v) ≡ Some w → IsLeft l (Some v) w
  by true t x = cc
  by false t x = record { was = x; other = λ m is. let same : v ≡ w = cc in drops l m v.what t (ap (λ (u : Waiting). u.what) same ∙ is) }

-- what is in a set without a link is another one, and was in it
else_of : (links : ℕ → Bool) (l m : ℕ) → with_link links l false m ≡ true → (m ≢ l) × (links m ≡ true)
else_of links l m h = ⊎_elim
    (λ (e : m ≡ l). absurd (both_ways (with_link links l false m) (subst (λ k. with_link links l false k ≡ false) (sym e) (link_at links l false)) h))
    (λ n. (n, sym (link_else links l false m n) ∙ h)) (cases_eq m l)

-- the end that left, and the other one
abbrev leaving : ℕ → End → End → End
leaving l e f = (leaves l (record { a = e; b = f })).a

abbrev staying : ℕ → End → End
staying l f = record f { barred = with_link f.barred l false }

leaving_barred : (l : ℕ) (e f : End) → Half e f → (m : ℕ) → (leaving l e f).barred m ≡ true → ((leaving l e f).joined m ≡ false) × (f.joined m ≡ true)
leaving_barred l e f h m b = ⊎_elim here there (cases_eq m l) where
  here : m ≡ l → ((leaving l e f).joined m ≡ false) × (f.joined m ≡ true)
  here same = rw same (link_at e.joined l false, sym (link_at e.barred l (f.joined l)) ∙ subst (λ k. with_link e.barred l (f.joined l) k ≡ true) same b)

  there : m ≢ l → ((leaving l e f).joined m ≡ false) × (f.joined m ≡ true)
  there n =
      let was : e.barred m ≡ true = sym (link_else e.barred l (f.joined l) m n) ∙ b in
      (link_else e.joined l false m n ∙ h.barred m was, h.since m was)

sound_to_leaving : (l : ℕ) (e f : End) (p : Packet) → IsSound e f p → IsSound (leaving l e f) (staying l f) p
sound_to_leaving l e f (Request n what) h = record { drawn = h.drawn; newest = h.newest; same = h.same }
sound_to_leaving l e f (Response n t code) h = record {
  drawn = h.drawn;
  newest = λ w x. h.newest w (left_waits l e.waiting w x).was;
  type = λ w x o. h.type w (left_waits l e.waiting w x).was o;
  acked = h.acked;
  held = λ ack w m x o d.
      let left = left_waits l e.waiting w x in
      ⊎_elim (λ marked. inl marked) (λ barred. inr (link_else f.barred l false m (left.other m d) ∙ barred)) (h.held ack w m left.was o d);
}

-- a link held at an end that it leaves stays held where the other end has it
held_leaving : (l : ℕ) (e f : End) (m : ℕ) → f.joined m ≡ true → IsHeld e m → IsHeld (leaving l e f) m
held_leaving l e f m has held = ⊎_elim
    (λ (same : m ≡ l). inr (subst (λ k. with_link e.barred l (f.joined l) k ≡ true) (sym same)
    (link_at e.barred l (f.joined l) ∙ subst (λ k. f.joined k ≡ true) same has)))
    (λ n. ⊎_elim (λ marked. inl (link_else e.marked l false m n ∙ marked)) (λ barred. inr (link_else e.barred l (f.joined l) m n ∙ barred)) held)
    (cases_eq m l)

sound_from_leaving : (l : ℕ) (e f : End) → Half f e → (p : Packet) → IsSound f e p → IsSound (staying l f) (leaving l e f) p
sound_from_leaving l e f other (Request n what) h = record {
  drawn = h.drawn;
  newest = λ w x. h.newest w (left_waits l e.waiting w x).was;
  same = λ w x o. h.same w (left_waits l e.waiting w x).was o;
}
sound_from_leaving l e f other (Response n t code) h = record {
  drawn = h.drawn;
  newest = h.newest;
  type = h.type;
  acked = h.acked;
  held = λ ack w m x o d. held_leaving l e f m (other.there w m x d) (h.held ack w m x o d);
}

pub leaves_keeps : (s : Pair) (l : ℕ) → Holds s → Holds (leaves l s)
leaves_keeps s l h =
    let e = s.a in
    let f = s.b in
    let mine = h.of_a in
    let other = h.of_b in
    record {
      of_a = record {
        drawn = mine.drawn;
        waits = λ w x. mine.waits w (left_waits l e.waiting w x).was;
        unwaited = λ p q before acked wait.
            mine.unwaited p q before acked (record { request = wait.request; waits = (left_waits l e.waiting wait.request wait.waits).was; key = wait.key });
        there = λ w m x d.
            let left = left_waits l e.waiting w x in
            link_else e.joined l false m (left.other m d) ∙ mine.there w m left.was d;
        marked = λ m k. let was = else_of e.marked l m k in link_else e.joined l false m was.0 ∙ mine.marked m was.1;
        barred = λ m b. (leaving_barred l e f mine m b).0;
        since = λ m b. (leaving_barred l e f mine m b).1;
        unclosed = λ m j k. let was = else_of e.joined l m j in mine.unclosed m was.1 (sym (link_else e.marked l false m was.0) ∙ k);
        granted = mine.granted;
        coming = all_weaker (IsSound e f) (IsSound (leaving l e f) (staying l f)) (sound_to_leaving l e f) e.coming mine.coming;
      };
      of_b = record {
        drawn = other.drawn;
        waits = other.waits;
        unwaited = λ p q before acked wait. other.unwaited p q before acked (record { request = wait.request; waits = wait.waits; key = wait.key });
        there = other.there;
        marked = other.marked;
        barred = λ m b. other.barred m (else_of f.barred l m b).1;
        since = λ m b. let was = else_of f.barred l m b in link_else e.joined l false m was.0 ∙ other.since m was.1;
        unclosed = other.unclosed;
        granted = other.granted;
        coming = all_weaker (IsSound f e) (IsSound (staying l f) (leaving l e f)) (sound_from_leaving l e f other) f.coming other.coming;
      };
      free = h.free;
    }

-- ---- a link closes under a grant

closed_more : (f : End) (l : ℕ) → Grows f (record f { closed = with_link f.closed l true })
closed_more f l = record {
  boots = refl;
  drawn = omega arith;
  waits = λ w h. h;
  acked = λ k h. h;
  held = λ m h. h;
  joined = λ m h. h;
}

-- where the other end has it, that promised it
closed_keeps : (s : Pair) (l : ℕ) → (s.b.joined l ≡ true → s.b.marked l ≡ true) → Holds s →
    Holds (record s { b = record s.b { closed = with_link s.b.closed l true } })
closed_keeps s l promised h =
    let f = s.b in
    let f' : End = record f { closed = with_link f.closed l true } in
    let other = h.of_b in
    record {
      of_a = other_grows s.a f f' (closed_more f l) h.of_a;
      of_b = record {
        drawn = other.drawn;
        waits = other.waits;
        unwaited = λ p q before acked wait. other.unwaited p q before acked (record { request = wait.request; waits = wait.waits; key = wait.key });
        there = other.there;
        marked = other.marked;
        barred = other.barred;
        since = other.since;
        unclosed = λ m j k. ⊎_elim
            (λ (same : m ≡ l). absurd (both_ways (f.marked m) k (subst (λ n. f.marked n ≡ true) (sym same) (promised (subst (λ n. f.joined n ≡ true) same j)))))
            (λ n. link_else f.closed l true m n ∙ other.unclosed m j k) (cases_eq m l);
        granted = other.granted;
        coming = coming_grows f s.a f' s.a (closed_more f l) (grows_not s.a) f.coming other.coming;
      };
      free = h.free;
    }

pub closes_keeps : (s : Pair) (l : ℕ) → IsHeld s.b l → Holds s → Holds (closes l s)
closes_keeps s l held h =
    closed_keeps (leaves l s) l
    (λ j. ⊎_elim (λ marked. marked) (λ barred. absurd (both_ways (s.b.joined l) (h.of_b.barred l barred) j)) held)
    (leaves_keeps s l h)

-- ---- a link joins

abbrev joining : ℕ → End → End
joining l e = record e { joined = with_link e.joined l true; marked = with_link e.marked l false; closed = with_link e.closed l false }

-- a link that isn't joined isn't marked, so what is marked stays so
joining_marked : (e f : End) (l : ℕ) → e.joined l ≡ false → Half e f → (m : ℕ) → e.marked m ≡ true → (joining l e).marked m ≡ true
joining_marked e f l out h m k = ⊎_elim
    (λ (same : m ≡ l). absurd (both_ways (e.joined m) (subst (λ n. e.joined n ≡ false) (sym same) out) (h.marked m k)))
    (λ n. link_else e.marked l false m n ∙ k) (cases_eq m l)

joining_more : (e f : End) (l : ℕ) → e.joined l ≡ false → Half e f → Grows e (joining l e)
joining_more e f l out h = record {
  boots = refl;
  drawn = omega arith;
  waits = λ w h. h;
  acked = λ k h. h;
  held = λ m held. ⊎_elim (λ marked. inl (joining_marked e f l out h m marked)) (λ barred. inr barred) held;
  joined = λ m has. link_more e.joined l m has;
}

joining_closed : (e f : End) (l : ℕ) → Half e f → (m : ℕ) → (joining l e).joined m ≡ true → (joining l e).marked m ≡ false →
    (joining l e).closed m ≡ false
joining_closed e f l h m j k = ⊎_elim
    (λ (same : m ≡ l). subst (λ n. with_link e.closed l false n ≡ false) (sym same) (link_at e.closed l false))
    (λ n. link_else e.closed l false m n ∙ h.unclosed m (sym (link_else e.joined l true m n) ∙ j) (sym (link_else e.marked l false m n) ∙ k))
    (cases_eq m l)

pub joins_keeps : (s : Pair) (l : ℕ) → s.a.joined l ≡ false → s.a.barred l ≡ false → Holds s → Holds (joins l s)
joins_keeps s l out free h =
    let e = s.a in
    let mine = h.of_a in
    record {
      of_a = record {
        drawn = mine.drawn;
        waits = mine.waits;
        unwaited = λ p q before acked wait. mine.unwaited p q before acked (record { request = wait.request; waits = wait.waits; key = wait.key });
        there = λ w m x d. link_more e.joined l m (mine.there w m x d);
        marked = λ m k. let was = else_of e.marked l m k in link_more e.joined l m (mine.marked m was.1);
        barred = λ m b. ⊎_elim
            (λ (same : m ≡ l). absurd (both_ways (e.barred m) (subst (λ n. e.barred n ≡ false) (sym same) free) b))
            (λ n. link_else e.joined l true m n ∙ mine.barred m b) (cases_eq m l);
        since = mine.since;
        unclosed = joining_closed e s.b l mine;
        granted = mine.granted;
        coming = coming_grows e s.b (joining l e) s.b (joining_more e s.b l out mine) (grows_not s.b) e.coming mine.coming;
      };
      of_b = other_grows s.b e (joining l e) (joining_more e s.b l out mine) h.of_b;
      free = h.free;
    }

-- ---- an end begins anew

no_waits : (w : Waiting) → None ≡ Some w → ⊥
no_waits w e = cc

anew_drawn : (e : End) (k : Key) → IsDrawn e k → IsDrawn (begins_anew e) k
anew_drawn e k (inl earlier) = inl (omega (arith, earlier))
anew_drawn e k (inr now) = inl (omega (arith, now.0))

pub reboots_keeps : (s : Pair) → Holds s → Holds (reboots s)
reboots_keeps s h = record {
  of_a = record {
    drawn = λ k own. anew_drawn s.a k (h.of_a.drawn k own);
    waits = λ w x. absurd (no_waits w x);
    unwaited = λ p q before acked wait. no_waits wait.request wait.waits;
    there = λ w l x d. absurd (no_waits w x);
    marked = λ l m. absurd (false≢true m);
    barred = λ l b. refl;
    since = λ l b. absurd (false≢true b);
    unclosed = λ l j m. refl;
    granted = h.of_a.granted;
    coming = tt;
  };
  of_b = record {
    drawn = h.of_b.drawn;
    waits = λ w x. absurd (no_waits w x);
    unwaited = λ p q before acked wait. no_waits wait.request wait.waits;
    there = λ w l x d. absurd (no_waits w x);
    marked = λ l m. absurd (false≢true m);
    barred = λ l b. refl;
    since = λ l b. absurd (false≢true b);
    unclosed = λ l j m. refl;
    granted = h.of_b.granted;
    coming = tt;
  };
  free = h.free;
}
