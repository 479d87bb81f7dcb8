-- Each step of an end keeps the invariant.
use Rattle.std.proofs.Common.{◌≡◌, ◌∙◌, ◌+◌, ℕ, Bool, true, false, not, ◌∷◌, Option, Some, None, inl, inr, ⊎_elim, ap, refl, sym, subst, arith}
use Rattle.std.specs.Prelude.{is_some}
use Rattle.std.proofs.lemmas.Bool.{and_parts, both_ways, cases_Bool, cases_eq, false≢true}
use Rattle.ppp_bap.specs.declared.bap_ask.BapAsk.{BapAsk}
use Rattle.ppp_bap.specs.declared.bap_ask.BapAsk.TheVariants.{Call, Callback, Drop}
use Rattle.ppp_pair.specs.Crossing.{IsBefore}
use Rattle.ppp_pair.specs.Pair.{Asked, Deed, End, Granted, Key, Packet, Pair, Request, Response, Took, Waiting, answers, asks, asks_again, does, draws, ends_wait, grants, has_staying, is_coming, is_waiting, key_of, may_answer, may_ask, promised}
use Rattle.ppp_pair.specs.Response.{Ack, FullNak, Nak, Rej, ResponseCode, response_type}
use Rattle.ppp_pair.proofs.Growth.{Grows, coming_grows, grows_not, other_grows, sends_keeps}
use Rattle.ppp_pair.proofs.Invariant.{HasAcked, Half, Holds, IsDrawn, IsOwn, IsSound, Waits}
use Rattle.ppp_pair.proofs.LinkLemmas.{link_at, link_else, promised_more}
use Rattle.ppp_pair.proofs.PacketLemmas.{all_weaker, packet_all}
use Rattle.ppp_pair.proofs.PastLemmas.{before_asked, before_cases, before_other, free_asked, free_granted, free_took, has_cases, has_here, has_more, has_other}

-- ---- an Identifier is drawn, and a wait ends

draws_more : (e : End) → Grows e (record e { drawn = e.drawn + 1 })
draws_more e = record {
  boots = refl;
  drawn = omega arith;
  waits = λ w h. h;
  acked = λ k h. h;
  held = λ l h. h;
  joined = λ l h. h;
}

drawn_more : (e : End) (k : Key) → IsDrawn e k → IsDrawn (record e { drawn = e.drawn + 1 }) k
drawn_more e k (inl earlier) = inl earlier
drawn_more e k (inr now) = inr (now.0, omega (arith, now.1))

pub draws_keeps : (s : Pair) → Holds s → Holds (draws s)
draws_keeps s h =
    let e = s.a in
    let e' : End = record e { drawn = e.drawn + 1 } in
    let mine = h.of_a in
    record {
      of_a = record {
        drawn = λ k own. drawn_more e k (mine.drawn k own);
        waits = λ w x. omega (arith, mine.waits w x);
        unwaited = λ p q before acked wait. mine.unwaited p q before acked (record { request = wait.request; waits = wait.waits; key = wait.key });
        there = mine.there;
        marked = mine.marked;
        barred = mine.barred;
        since = mine.since;
        unclosed = mine.unclosed;
        granted = mine.granted;
        coming = coming_grows e s.b e' s.b (draws_more e) (grows_not s.b) e.coming mine.coming;
      };
      of_b = other_grows s.b e e' (draws_more e) h.of_b;
      free = h.free;
    }

none_waits : (w : Waiting) → None ≡ Some w → ⊥
none_waits w e = cc

ended_more : (e : End) → Grows e (record e { waiting = None })
ended_more e = record {
  boots = refl;
  drawn = omega arith;
  waits = λ w h. absurd (none_waits w h);
  acked = λ k h. h;
  held = λ l h. h;
  joined = λ l h. h;
}

pub ends_keeps : (s : Pair) → Holds s → Holds (ends_wait s)
ends_keeps s h =
    let e = s.a in
    let e' : End = record e { waiting = None } in
    let mine = h.of_a in
    record {
      of_a = record {
        drawn = mine.drawn;
        waits = λ w x. absurd (none_waits w x);
        unwaited = λ p q before acked wait. none_waits wait.request wait.waits;
        there = λ w l x d. absurd (none_waits w x);
        marked = mine.marked;
        barred = mine.barred;
        since = mine.since;
        unclosed = mine.unclosed;
        granted = mine.granted;
        coming = coming_grows e s.b e' s.b (ended_more e) (grows_not s.b) e.coming mine.coming;
      };
      of_b = other_grows s.b e e' (ended_more e) h.of_b;
      free = h.free;
    }

-- ---- a request is sent

pub again_keeps : (s : Pair) → Holds s → Holds (asks_again s.a.waiting s)
again_keeps s h = by s.a.waiting refl where
  by : (o : Option Waiting) → s.a.waiting ≡ o → Holds (asks_again o s)
  by None e = h
  by (Some w) e = sends_keeps s (Request w.ordinal w.what) (record {
    drawn = h.of_a.waits w e;
    newest = λ v x. let same : v ≡ w = cc in omega (arith, ap (λ (u : Waiting). u.ordinal) same);
    same = λ v x o. let same : v ≡ w = cc in ap (λ (u : Waiting). u.what) same;
  }) h

-- who may ask doesn't wait, and has joined the link to drop
may_ask_of : (what : BapAsk) (e : End) (l : ℕ) → may_ask what e ≡ true → what ≡ Drop l → e.joined l ≡ true
may_ask_of Call e l may is = cc
may_ask_of Callback e l may is = cc
may_ask_of (Drop m) e l may is = let same : m ≡ l = cc in subst (λ k. e.joined k ≡ true) same (and_parts (not (is_waiting e)) (e.joined m) may).1

-- an end that asks for the first time
abbrev asking : End → BapAsk → End
asking e what = does (Asked (key_of e (e.drawn + 1))) (record e { drawn = e.drawn + 1; waiting = Some (record { ordinal = e.drawn + 1; what = what }) })

asking_waits : (e : End) (what : BapAsk) (w : Waiting) → (asking e what).waiting ≡ Some w → (w.ordinal ≡ e.drawn + 1) × (w.what ≡ what)
asking_waits e what w x =
    let now : Waiting = record { ordinal = e.drawn + 1; what = what } in
    let same : w ≡ now = cc in
    (ap (λ (u : Waiting). u.ordinal) same, ap (λ (u : Waiting). u.what) same)

-- its request is new
asking_new : (e f : End) → Half e f → (k : Key) → IsOwn k e.past → ¬ (key_of e (e.drawn + 1) ≡ k)
asking_new e f h k own same = by (h.drawn k own) where
  boots : k.boots ≡ e.boots
  boots = sym (ap (λ (x : Key). x.boots) same)

  ordinal : k.ordinal ≡ e.drawn + 1
  ordinal = sym (ap (λ (x : Key). x.ordinal) same)

  by : IsDrawn e k → ⊥
  by (inl earlier) = omega (arith, earlier, boots)
  by (inr now) = omega (arith, now.1, ordinal)

asking_drawn : (e f : End) (what : BapAsk) → Half e f → (k : Key) → IsOwn k (asking e what).past → IsDrawn (asking e what) k
asking_drawn e f what h k own = by own where
  key : Key
  key = key_of e (e.drawn + 1)

  old : IsOwn k e.past → IsDrawn (asking e what) k
  old o = ⊎_elim (λ earlier. inl earlier) (λ now. inr (now.0, omega (arith, now.1))) (h.drawn k o)

  by : IsOwn k (asking e what).past → IsDrawn (asking e what) k
  by (inl is) = ⊎_elim
      (λ here. let same : key_of e (e.drawn + 1) ≡ k = cc in inr (sym (ap (λ (x : Key). x.boots) same), omega (arith, ap (λ (x : Key). x.ordinal) same)))
      (λ was. old (inl was)) (has_cases (Asked (key_of e (e.drawn + 1))) e.past (Asked k) is)
  by (inr is) = old (inr (has_other (Asked (key_of e (e.drawn + 1))) e.past (Granted k) (λ x. cc) is))

asking_unwaited : (e f : End) (what : BapAsk) → Half e f → (p q : Key) → IsBefore q p (asking e what).past →
    HasAcked p (asking e what).past → Waits (asking e what) q → ⊥
asking_unwaited e f what h p q before acked wait =
    let was = has_other (Asked (key_of e (e.drawn + 1))) e.past (Took p Ack) (λ x. cc) acked in
    ⊎_elim (λ now. now.1 (record { code = Ack; took = was }))
    (λ old. asking_new e f h q (inl (before_asked q p e.past old)) (ap (λ n. key_of e n) (sym (asking_waits e what wait.request wait.waits).0) ∙ wait.key))
    (before_cases q p (Asked (key_of e (e.drawn + 1))) e.past before)

-- what is under way to it, and from it
sound_to_asking : (e f : End) (what : BapAsk) (p : Packet) → IsSound e f p → IsSound (asking e what) f p
sound_to_asking e f what (Request n asked) h = record { drawn = h.drawn; newest = h.newest; same = h.same }
sound_to_asking e f what (Response n t code) h = record {
  drawn = omega (arith, h.drawn);
  newest = λ w x. omega (arith, h.drawn, (asking_waits e what w x).0);
  type = λ w x o. absurd (omega (arith, h.drawn, (asking_waits e what w x).0, o));
  acked = h.acked;
  held = λ ack w l x o d. absurd (omega (arith, h.drawn, (asking_waits e what w x).0, o));
}

sound_from_asking : (e f : End) (what : BapAsk) (p : Packet) → IsSound f e p → IsSound f (asking e what) p
sound_from_asking e f what (Request n asked) h = record {
  drawn = omega (arith, h.drawn);
  newest = λ w x. omega (arith, h.drawn, (asking_waits e what w x).0);
  same = λ w x o. absurd (omega (arith, h.drawn, (asking_waits e what w x).0, o));
}
sound_from_asking e f what (Response n t code) h = record {
  drawn = h.drawn;
  newest = h.newest;
  type = h.type;
  acked = λ ack. has_more (Asked (key_of e (e.drawn + 1))) e.past (Took (key_of f n) Ack) (h.acked ack);
  held = h.held;
}

asking_keeps : (s : Pair) (what : BapAsk) → may_ask what s.a ≡ true → Holds s → Holds (record s { a = asking s.a what })
asking_keeps s what may h =
    let e = s.a in
    let f = s.b in
    let mine = h.of_a in
    let other = h.of_b in
    let deed : Deed = Asked (key_of e (e.drawn + 1)) in
    record {
      of_a = record {
        drawn = asking_drawn e f what mine;
        waits = λ w x. omega (arith, (asking_waits e what w x).0);
        unwaited = asking_unwaited e f what mine;
        there = λ w l x d. may_ask_of what e l may (sym (asking_waits e what w x).1 ∙ d);
        marked = mine.marked;
        barred = mine.barred;
        since = mine.since;
        unclosed = mine.unclosed;
        granted = λ k g. mine.granted k (has_other deed e.past (Granted k) (λ x. cc) g);
        coming = all_weaker (IsSound e f) (IsSound (asking e what) f) (sound_to_asking e f what) e.coming mine.coming;
      };
      of_b = record {
        drawn = other.drawn;
        waits = other.waits;
        unwaited = other.unwaited;
        there = other.there;
        marked = other.marked;
        barred = other.barred;
        since = other.since;
        unclosed = other.unclosed;
        granted = λ k g. has_more deed e.past (Took k Ack) (other.granted k g);
        coming = all_weaker (IsSound f e) (IsSound f (asking e what)) (sound_from_asking e f what) f.coming other.coming;
      };
      free = free_asked (key_of e (e.drawn + 1)) e.past f.past (λ g. asking_new e f mine (key_of e (e.drawn + 1)) (inr g) refl) h.free;
    }

pub asks_keeps : (s : Pair) (what : BapAsk) → may_ask what s.a ≡ true → Holds s → Holds (asks (s.a.drawn + 1) what s)
asks_keeps s what may h =
    let s' : Pair = record s { a = asking s.a what } in
    sends_keeps s' (Request (s.a.drawn + 1) what) (record {
      drawn = omega arith;
      newest = λ w x. omega (arith, (asking_waits s.a what w x).0);
      same = λ w x o. (asking_waits s.a what w x).1;
    }) (asking_keeps s what may h)

-- ---- a request is taken

-- an end that answers
abbrev answering : End → Key → BapAsk → ResponseCode → End
answering e k what code = does (Took k code) (record e { marked = promised what code e.marked })

answering_more : (e : End) (k : Key) (what : BapAsk) (code : ResponseCode) → Grows e (answering e k what code)
answering_more e k what code = record {
  boots = refl;
  drawn = omega arith;
  waits = λ w h. h;
  acked = λ p h. has_more (Took k code) e.past (Took p Ack) h;
  held = λ l h. ⊎_elim (λ m. inl (promised_more what code e.marked l m)) (λ b. inr b) h;
  joined = λ l h. h;
}

-- who grants doesn't wait
granting_waits : (what : BapAsk) (e : End) (w : Waiting) → may_answer what Ack e ≡ true → e.waiting ≡ Some w → ⊥
granting_waits what e w may x = by (and_parts _ _ may).0 where
  by : not (is_waiting e) ≡ true → ⊥
  by free = false≢true (subst (λ o. not (is_some o) ≡ true) x free)

answering_unwaited : (e f : End) (k : Key) (what : BapAsk) (code : ResponseCode) → may_answer what code e ≡ true → Half e f →
    (p q : Key) → IsBefore q p (answering e k what code).past → HasAcked p (answering e k what code).past → Waits (answering e k what code) q → ⊥
answering_unwaited e f k what code may h p q before acked wait =
    let was = before_other q p (Took k code) e.past (λ x. cc) before in
    ⊎_elim (λ now. let ack : code ≡ Ack = cc in granting_waits what e wait.request (subst (λ c. may_answer what c e ≡ true) ack may) wait.waits)
    (λ old. h.unwaited p q was old (record { request = wait.request; waits = wait.waits; key = wait.key }))
    (has_cases (Took k code) e.past (Took p Ack) acked)

answering_drawn : (e f : End) (k : Key) (what : BapAsk) (code : ResponseCode) → Half e f → (q : Key) → IsOwn q (answering e k what code).past → IsDrawn e q
answering_drawn e f k what code h q (inl is) = h.drawn q (inl (has_other (Took k code) e.past (Asked q) (λ x. cc) is))
answering_drawn e f k what code h q (inr is) = h.drawn q (inr (has_other (Took k code) e.past (Granted q) (λ x. cc) is))

-- what isn't marked then wasn't
unmarked_before : (what : BapAsk) (code : ResponseCode) (marked : ℕ → Bool) (l : ℕ) → promised what code marked l ≡ false → marked l ≡ false
unmarked_before what code marked l h =
    ⊎_elim (λ is. absurd (both_ways (promised what code marked l) h (promised_more what code marked l is))) (λ not. not) (cases_Bool (marked l))

-- what is marked then is joined
answering_marked : (e f : End) (what : BapAsk) (code : ResponseCode) (l : ℕ) → may_answer what code e ≡ true → Half e f →
    promised what code e.marked l ≡ true → e.joined l ≡ true
answering_marked e f Call code l may h m = h.marked l m
answering_marked e f Callback code l may h m = h.marked l m
answering_marked e f (Drop k) Ack l may h m = ⊎_elim
    (λ (same : l ≡ k). subst (λ x. e.joined x ≡ true) (sym same) (and_parts (e.joined k) (has_staying k e) (and_parts _ _ may).1).0)
    (λ n. h.marked l (sym (link_else e.marked k true l n) ∙ m)) (cases_eq l k)
answering_marked e f (Drop k) Nak l may h m = h.marked l m
answering_marked e f (Drop k) Rej l may h m = h.marked l m
answering_marked e f (Drop k) FullNak l may h m = h.marked l m

answering_keeps : (s : Pair) (k : Key) (what : BapAsk) (code : ResponseCode) → may_answer what code s.a ≡ true → Holds s →
    Holds (record s { a = answering s.a k what code })
answering_keeps s k what code may h =
    let e = s.a in
    let f = s.b in
    let e' : End = answering e k what code in
    let mine = h.of_a in
    record {
      of_a = record {
        drawn = answering_drawn e f k what code mine;
        waits = mine.waits;
        unwaited = answering_unwaited e f k what code may mine;
        there = mine.there;
        marked = λ l m. answering_marked e f what code l may mine m;
        barred = mine.barred;
        since = mine.since;
        unclosed = λ l j m. mine.unclosed l j (unmarked_before what code e.marked l m);
        granted = λ q g. mine.granted q (has_other (Took k code) e.past (Granted q) (λ x. cc) g);
        coming = coming_grows e f e' f (answering_more e k what code) (grows_not f) e.coming mine.coming;
      };
      of_b = other_grows f e e' (answering_more e k what code) h.of_b;
      free = free_took k code e.past f.past h.free;
    }

-- the Ack of a drop marked the link
promised_held : (what : BapAsk) (marked : ℕ → Bool) (l : ℕ) → what ≡ Drop l → promised what Ack marked l ≡ true
promised_held what marked l is = rw is (link_at marked l true)

pub answers_keeps : (s : Pair) (n : ℕ) (what : BapAsk) (code : ResponseCode) → is_coming (Request n what) s.a ≡ true → may_answer what code s.a ≡ true →
    Holds s → Holds (answers n what code s)
answers_keeps s n what code sent may h =
    let k = key_of s.b n in
    let s' : Pair = record s { a = answering s.a k what code } in
    let sound = packet_all (IsSound s.a s.b) (Request n what) s.a.coming h.of_a.coming sent in
    sends_keeps s' (Response n (response_type what) code) (record {
      drawn = sound.drawn;
      newest = sound.newest;
      type = λ w x o. ap response_type (sound.same w x o);
      acked = λ ack. subst (λ c. HasAcked k (Took k c ∷ s.a.past)) (sym ack) (has_here (Took k Ack) s.a.past);
      held = λ ack w l x o d. inl (subst (λ c. promised what c s.a.marked l ≡ true) (sym ack) (promised_held what s.a.marked l (sym (sound.same w x o) ∙ d)));
    }) (answering_keeps s k what code may h)

-- ---- a request is granted

-- ---- a request is granted

abbrev granting : End → Waiting → End
granting e w = does (Granted (key_of e w.ordinal)) (record e { waiting = None })

granting_more : (e : End) (w : Waiting) → Grows e (granting e w)
granting_more e w = record {
  boots = refl;
  drawn = omega arith;
  waits = λ v h. absurd (none_waits v h);
  acked = λ p h. has_more (Granted (key_of e w.ordinal)) e.past (Took p Ack) h;
  held = λ l h. h;
  joined = λ l h. h;
}

granting_drawn : (e f : End) (w : Waiting) → e.waiting ≡ Some w → Half e f → (k : Key) → IsOwn k (granting e w).past → IsDrawn e k
granting_drawn e f w x h k (inl is) = h.drawn k (inl (has_other (Granted (key_of e w.ordinal)) e.past (Asked k) (λ y. cc) is))
granting_drawn e f w x h k (inr is) = ⊎_elim
    (λ here. let same : key_of e w.ordinal ≡ k = cc in subst (λ q. IsDrawn e q) same (inr (refl, h.waits w x)))
    (λ was. h.drawn k (inr was)) (has_cases (Granted (key_of e w.ordinal)) e.past (Granted k) is)

pub grants_keeps : (s : Pair) (w : Waiting) → s.a.waiting ≡ Some w → HasAcked (key_of s.a w.ordinal) s.b.past → Holds s → Holds (grants w s)
grants_keeps s w x acked h =
    let e = s.a in
    let f = s.b in
    let key = key_of e w.ordinal in
    let mine = h.of_a in
    record {
      of_a = record {
        drawn = granting_drawn e f w x mine;
        waits = λ v y. absurd (none_waits v y);
        unwaited = λ p q before took wait. none_waits wait.request wait.waits;
        there = λ v l y d. absurd (none_waits v y);
        marked = mine.marked;
        barred = mine.barred;
        since = mine.since;
        unclosed = mine.unclosed;
        granted = λ k g. ⊎_elim (λ here. let same : key ≡ k = cc in subst (λ q. HasAcked q f.past) same acked) (λ was. mine.granted k was)
            (has_cases (Granted key) e.past (Granted k) g);
        coming = coming_grows e f (granting e w) f (granting_more e w) (grows_not f) e.coming mine.coming;
      };
      of_b = other_grows f e (granting e w) (granting_more e w) h.of_b;
      free = free_granted key e.past f.past
          (λ q before g. mine.unwaited q key before (h.of_b.granted q g) (record { request = w; waits = x; key = refl })) h.free;
    }
