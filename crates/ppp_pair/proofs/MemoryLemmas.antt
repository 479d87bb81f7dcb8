-- What an end keeps of the links that it left is what the states tell.
use Rattle.std.proofs.Common.{◌≡◌, ◌↔◌, ◌∙◌, ◌+◌, ℕ, Bool, true, false, ◌&&◌, List, [], ◌∷◌, map, Option, Some, None, inl, inr, ⊎_elim, ap, refl, sym, subst}
use Rattle.std.specs.Prelude.{if◌then◌else◌, ◌||◌}
use Rattle.std.proofs.lemmas.Bool.{and_cases, and_right, both_ways, cases_eq}
use Rattle.ppp_bap.specs.declared.bap_ask.BapAsk.{BapAsk}
use Rattle.ppp_bap.specs.declared.bap_ask.BapAsk.TheVariants.{Call, Callback, Drop}
use Rattle.ppp_pair.specs.Memory.{IsFree, Remembered, states}
use Rattle.ppp_pair.specs.Pair.{A, Asks, AsksAgain, B, Draws, End, EndsWait, Event, Happening, Joins, Leaves, Pair, Reboots, Request, Response, Side, TakesRequest, TakesResponse, Waiting, answers, asks, asks_again, at_first, closes, follows, grants, happens, has_staying, hears, is_coming, is_response_to, joins, leaves, may_answer, may_ask, run, seen, start, takes_response, turned, with_link}
use Rattle.ppp_pair.specs.Response.{Ack, FullNak, Nak, Rej, ResponseCode, ResponseType}
use Rattle.ppp_pair.proofs.Invariant.{Half, Holds}
use Rattle.ppp_pair.proofs.LinkLemmas.{link_at, link_else}
use Rattle.ppp_pair.proofs.Runs.{happens_keeps, seen_holds, start_holds}

-- ---- one step

-- An end `e` became `e'`, and the other end is `f'` then: a link that isn't joined is barred exactly where the other end has it, and
-- it was joined just before or barred already.
abbrev Remembers : End → End → End → Type 0
Remembers e e' f' = (l : ℕ) → e'.joined l ≡ false → e'.barred l ≡ (f'.joined l && (e.joined l || e.barred l))

record Both (s s' : Pair) : Type 0 where
  of_a : Remembers s.a s'.a s'.b
  of_b : Remembers s.b s'.b s'.a

-- the links and what is barred didn't change
unchanged_by : (has : Bool) (joined barred : Bool) → joined ≡ false → (barred ≡ true → has ≡ true) → barred ≡ (has && (joined || barred))
unchanged_by true joined barred out since = rw out refl
unchanged_by false joined true out since = sym (since refl)
unchanged_by false joined false out since = refl

unchanged : (e f : End) → Half e f → (l : ℕ) → e.joined l ≡ false → e.barred l ≡ (f.joined l && (e.joined l || e.barred l))
unchanged e f h l out = unchanged_by (f.joined l) (e.joined l) (e.barred l) out (h.since l)

same_both : (s : Pair) → Holds s → Both s s
same_both s h = record { of_a = unchanged s.a s.b h.of_a; of_b = unchanged s.b s.a h.of_b }

-- only the links tell
like_both : (s s' t : Pair) → s'.a.joined ≡ t.a.joined → s'.a.barred ≡ t.a.barred → s'.b.joined ≡ t.b.joined → s'.b.barred ≡ t.b.barred → Both s t → Both s s'
like_both s s' t ja ba jb bb h = record {
  of_a = λ l out. ap (λ (f : ℕ → Bool). f l) ba ∙ h.of_a l (ap (λ (f : ℕ → Bool). f l) (sym ja) ∙ out) ∙
      ap (λ (f : ℕ → Bool). f l && (s.a.joined l || s.a.barred l)) (sym jb);
  of_b = λ l out. ap (λ (f : ℕ → Bool). f l) bb ∙ h.of_b l (ap (λ (f : ℕ → Bool). f l) (sym jb) ∙ out) ∙
      ap (λ (f : ℕ → Bool). f l && (s.b.joined l || s.b.barred l)) (sym ja);
}

-- a link leaves
and_true : (x : Bool) → x ≡ (x && true)
and_true true = refl
and_true false = refl

leaves_both : (s : Pair) (l : ℕ) → s.a.joined l ≡ true → Holds s → Both s (leaves l s)
leaves_both s l has h = record { of_a = mine; of_b = other } where
  mine : Remembers s.a (leaves l s).a (leaves l s).b
  mine m out = ⊎_elim
      (λ (same : m ≡ l). rw same (link_at s.a.barred l (s.b.joined l) ∙ rw has (and_true (s.b.joined l))))
      (λ n. link_else s.a.barred l (s.b.joined l) m n ∙ unchanged s.a s.b h.of_a m (sym (link_else s.a.joined l false m n) ∙ out)) (cases_eq m l)

  other : Remembers s.b (leaves l s).b (leaves l s).a
  other m out = ⊎_elim
      (λ (same : m ≡ l). rw same (link_at s.b.barred l false ∙ rw (link_at s.a.joined l false) refl))
      (λ n. link_else s.b.barred l false m n ∙ unchanged s.b s.a h.of_b m out ∙
      ap (λ (x : Bool). x && (s.b.joined m || s.b.barred m)) (sym (link_else s.a.joined l false m n)))
      (cases_eq m l)

-- a link joins
joins_both : (s : Pair) (l : ℕ) → Holds s → Both s (joins l s)
joins_both s l h = record { of_a = mine; of_b = other } where
  mine : Remembers s.a (joins l s).a (joins l s).b
  mine m out = ⊎_elim
      (λ (same : m ≡ l). absurd (both_ways (with_link s.a.joined l true m) out
      (subst (λ k. with_link s.a.joined l true k ≡ true) (sym same) (link_at s.a.joined l true))))
      (λ n. unchanged s.a s.b h.of_a m (sym (link_else s.a.joined l true m n) ∙ out)) (cases_eq m l)

  other : Remembers s.b (joins l s).b (joins l s).a
  other m out = ⊎_elim
      (λ (same : m ≡ l). subst (λ k. s.b.joined k ≡ false → s.b.barred k ≡ (with_link s.a.joined l true k && (s.b.joined k || s.b.barred k))) (sym same)
      (λ gone. rw (link_at s.a.joined l true, gone) refl) out)
      (λ n. unchanged s.b s.a h.of_b m out ∙ ap (λ (x : Bool). x && (s.b.joined m || s.b.barred m)) (sym (link_else s.a.joined l true m n))) (cases_eq m l)

-- ---- one event

follows_both : (s : Pair) (w : Waiting) (what : BapAsk) → s.a.waiting ≡ Some w → w.what ≡ what → Holds s → Both s (follows what (grants w s))
follows_both s w Call x is h = like_both s (grants w s) s refl refl refl refl (same_both s h)
follows_both s w Callback x is h = like_both s (grants w s) s refl refl refl refl (same_both s h)
follows_both s w (Drop l) x is h = by (has_staying l s.a) where
  by : (b : Bool) → Both s (if b then closes l (grants w s) else grants w s)
  by true = like_both s (closes l (grants w s)) (leaves l s) refl refl refl refl (leaves_both s l (h.of_a.there w l x is) h)
  by false = like_both s (grants w s) s refl refl refl refl (same_both s h)

hears_both : (s : Pair) (w : Waiting) (code : ResponseCode) → s.a.waiting ≡ Some w → Holds s → Both s (hears w code s)
hears_both s w Ack x h = follows_both s w w.what x refl h
hears_both s w Nak x h = like_both s (hears w Nak s) s refl refl refl refl (same_both s h)
hears_both s w Rej x h = like_both s (hears w Rej s) s refl refl refl refl (same_both s h)
hears_both s w FullNak x h = like_both s (hears w FullNak s) s refl refl refl refl (same_both s h)

takes_both : (s : Pair) (n : ℕ) (t : ResponseType) (code : ResponseCode) → Holds s → (o : Option Waiting) → s.a.waiting ≡ o →
    Both s (takes_response o n t code s)
takes_both s n t code h None x = same_both s h
takes_both s n t code h (Some w) x = by (is_response_to w n t) where
  by : (b : Bool) → Both s (if b then hears w code s else s)
  by true = hears_both s w code x h
  by false = same_both s h

asks_both : (s : Pair) (what : BapAsk) → Holds s → (b : Bool) → Both s (if b then asks (s.a.drawn + 1) what s else s)
asks_both s what h true = like_both s (asks (s.a.drawn + 1) what s) s refl refl refl refl (same_both s h)
asks_both s what h false = same_both s h

again_both : (s : Pair) → Holds s → (o : Option Waiting) → Both s (asks_again o s)
again_both s h None = same_both s h
again_both s h (Some w) = like_both s (asks_again (Some w) s) s refl refl refl refl (same_both s h)

answers_both : (s : Pair) (n : ℕ) (what : BapAsk) (code : ResponseCode) → Holds s → (b : Bool) → Both s (if b then answers n what code s else s)
answers_both s n what code h true = like_both s (answers n what code s) s refl refl refl refl (same_both s h)
answers_both s n what code h false = same_both s h

comes_both : (s : Pair) (n : ℕ) (t : ResponseType) (code : ResponseCode) → Holds s → (b : Bool) →
    Both s (if b then takes_response s.a.waiting n t code s else s)
comes_both s n t code h true = takes_both s n t code h s.a.waiting refl
comes_both s n t code h false = same_both s h

joins_both_if : (s : Pair) (l : ℕ) → Holds s → (b : Bool) → Both s (if b then s else joins l s)
joins_both_if s l h true = same_both s h
joins_both_if s l h false = joins_both s l h

leaves_both_if : (s : Pair) (l : ℕ) → Holds s → (b : Bool) → s.a.joined l ≡ b → Both s (if b then leaves l s else s)
leaves_both_if s l h true has = leaves_both s l has h
leaves_both_if s l h false has = same_both s h

first_both : (s : Pair) (what : Happening) → Holds s → Both s (at_first s what)
unfolding at_first
first_both s Draws h = like_both s (at_first s Draws) s refl refl refl refl (same_both s h)
first_both s (Asks what) h = asks_both s what h (may_ask what s.a)
first_both s AsksAgain h = again_both s h s.a.waiting
first_both s (TakesRequest n what code) h = answers_both s n what code h (is_coming (Request n what) s.a && may_answer what code s.a)
first_both s (TakesResponse n t code) h = comes_both s n t code h (is_coming (Response n t code) s.a)
first_both s EndsWait h = like_both s (at_first s EndsWait) s refl refl refl refl (same_both s h)
first_both s (Joins l) h = joins_both_if s l h (s.a.joined l || s.a.barred l)
first_both s (Leaves l) h = leaves_both_if s l h (s.a.joined l) refl
first_both s Reboots h = record { of_a = λ l out. refl; of_b = λ l out. refl }

turned_both : (s s' : Pair) → Both s s' → Both (turned s) (turned s')
turned_both s s' h = record { of_a = h.of_b; of_b = h.of_a }

seen_both : (side : Side) (s s' : Pair) → Both s s' → Both (seen side s) (seen side s')
seen_both A s s' h = h
seen_both B s s' h = turned_both s s' h

twice : (side : Side) (s : Pair) → seen side (seen side s) ≡ s
twice A s = refl
twice B s = refl

happens_both : (s : Pair) (e : Event) → Holds s → Both s (happens s e)
happens_both s e h =
    let first = first_both (seen e.side s) e.what (seen_holds e.side s h) in
    subst (λ x. Both x (happens s e)) (twice e.side s) (seen_both e.side (seen e.side s) (at_first (seen e.side s) e.what) first)

-- ---- runs

-- what is barred is what the states tell, from the last one back
abbrev Tells : Side → Pair → List Pair → Type 0
Tells side s before = (l : ℕ) → (seen side s).a.joined l ≡ false → ((seen side s).a.barred l ≡ false) ↔ IsFree l (map (seen side) (s ∷ before))

or_parts : (x y : Bool) → (x || y) ≡ false → (x ≡ false) × (y ≡ false)
or_parts true y h = absurd (both_ways true h refl)
or_parts false y h = (refl, h)

step_tells : (side : Side) (s s' : Pair) (before : List Pair) → Both (seen side s) (seen side s') → Tells side s before → Tells side s' (s ∷ before)
step_tells side s s' before both tells l out = (forth, back) where
  rule : (seen side s').a.barred l ≡ ((seen side s').b.joined l && ((seen side s).a.joined l || (seen side s).a.barred l))
  rule = both.of_a l out

  forth : (seen side s').a.barred l ≡ false → IsFree l (map (seen side) (s' ∷ s ∷ before))
  forth free = (
    out,
    ⊎_elim (λ gone. inl gone)
        (λ none. let parts = or_parts ((seen side s).a.joined l) ((seen side s).a.barred l) none in inr ((tells l parts.0).0 parts.1))
        (and_cases ((seen side s').b.joined l) ((seen side s).a.joined l || (seen side s).a.barred l) (sym rule ∙ free)),
  )

  back : IsFree l (map (seen side) (s' ∷ s ∷ before)) → (seen side s').a.barred l ≡ false
  back free = ⊎_elim (λ gone. rule ∙ rw gone refl)
      (λ old. rule ∙ rw (old.0, (tells l old.0).1 old) (and_right ((seen side s').b.joined l) false refl)) free.1

start_tells : (side : Side) → Tells side start []
start_tells A l out = ((λ free. (refl, inl refl)), (λ free. refl))
start_tells B l out = ((λ free. (refl, inl refl)), (λ free. refl))

-- the last state of a run is the first of its states
tells_run : (side : Side) (es : List Event) (s : Pair) (before : List Pair) → Holds s → Tells side s before →
    (l : ℕ) → (seen side (run es s)).a.joined l ≡ false → ((seen side (run es s)).a.barred l ≡ false) ↔ IsFree l (map (seen side) (states es s before))
tells_run side [] s before h tells = tells
tells_run side (e ∷ es) s before h tells =
    tells_run side es (happens s e) (s ∷ before) (happens_keeps s e h)
    (step_tells side s (happens s e) before (seen_both side s (happens s e) (happens_both s e h)) tells)

pub remembered : Remembered
remembered es side l out = tells_run side es start [] start_holds (start_tells side) l out
