-- An end that opens again: meanwhile the other end was outside Opened.
use Rattle.std.proofs.Common.{◌≡◌, inl, inr, ⊎_elim, true, false, List, [], ◌∷◌, ◌++◌, arith}
use Rattle.ppp_packet.specs.ConfigOption.{ConfigOption}
use Rattle.ppp_auto.specs.declared.auto_state.AutoState.{AutoState}
use Rattle.ppp_auto.specs.declared.auto_state.AutoState.TheVariants.{Opened}
use Rattle.ppp_auto.specs.Auto.{is_opened}
use Rattle.ppp_duet.specs.Duet.{Duet, Side, A, B, Event, happens, run, start}
use Rattle.ppp_duet.specs.NarrowRun.{NarrowIfTaken, IsNarrowRun, IsNarrowWhereTaken}
use Rattle.ppp_duet.specs.Reopening.{end_at, end_beyond, IsOpenedAt, IsOpenedBeyond, StaysOut, IsOnceOut, Away, Waits}
use Rattle.ppp_duet.specs.Terms.{Terms}
use Rattle.ppp_duet.proofs.Events.{event_goes, run_holds, start_holds}
use Rattle.ppp_duet.proofs.Invariant.{Holds}
use Rattle.ppp_duet.proofs.NarrowRunLemmas.{where_taken, narrow_front, narrow_back}
use Rattle.ppp_duet.proofs.TermsLemmas.{Used}
use Rattle.ppp_duet.proofs.Turns.{Turn}

is_opened_at : (s : AutoState) → is_opened s ≡ true → s ≡ Opened
is_opened_at s e = grind arith

not_opened : (s : AutoState) → is_opened s ≡ false → ¬ (s ≡ Opened)
not_opened s e h = grind arith

module _ (compat : List ConfigOption → List ConfigOption → Type 0) (ta tb : Terms) (used_a : Used compat ta) (used_b : Used compat tb) where
  abbrev then : Duet → Event → Duet
  then d e = happens ta.setup tb.setup d e

  turn : (side : Side) (d : Duet) (e : Event) → NarrowIfTaken e.what d → Holds ta tb d →
      Turn (end_at side d) (end_beyond side d) (end_at side (then d e)) (end_beyond side (then d e))
  turn A d e narrow h = (event_goes compat ta tb used_a used_b d e narrow h).mine
  turn B d e narrow h = (event_goes compat ta tb used_a used_b d e narrow h).other

  -- an end leaves Opened
  pub waits_left : (side : Side) (d : Duet) (e : Event) → NarrowIfTaken e.what d → Holds ta tb d → IsOpenedAt side d → ¬ (IsOpenedAt side (then d e)) →
      Away (end_at side (then d e)) (end_beyond side (then d e))
  waits_left side d e narrow h opened out =
      ⊎_elim (λ k. absurd (out (is_opened_at (end_at side (then d e)).auto.state k))) (λ k. k) ((turn side d e narrow h).left (rw opened))

  -- one event later
  pub waits_on : (out : Type 0) (side : Side) (d : Duet) (e : Event) → NarrowIfTaken e.what d → Holds ta tb d →
      (¬ (IsOpenedBeyond side d) → out) → (¬ (IsOpenedBeyond side (then d e)) → out) → Waits out side d → Waits out side (then d e)
  waits_on out side d e narrow h before after (inl k) = inl k
  waits_on out side d e narrow h before after (inr k) =
      ⊎_elim (λ o. inl (before (not_opened (end_beyond side d).auto.state o)))
      (⊎_elim (λ o. inl (after (not_opened (end_beyond side (then d e)).auto.state o))) (λ w. inr w))
      ((turn side d e narrow h).onward k)

  -- an end enters Opened
  pub waits_entered : (out : Type 0) (side : Side) (d : Duet) (e : Event) → NarrowIfTaken e.what d → Holds ta tb d → IsOpenedAt side (then d e) →
      Waits out side d → out
  waits_entered out side d e narrow h opened (inl k) = k
  waits_entered out side d e narrow h opened (inr k) = absurd ((turn side d e narrow h).enters k (rw opened))

  abbrev Out : Side → List Event → Duet → Type 0
  Out side es d = IsOnceOut ta.setup tb.setup side es d

  first_out : (side : Side) (es : List Event) (d : Duet) → ¬ (IsOpenedBeyond side d) → Out side es d
  first_out side [] d h = h
  first_out side (e ∷ es) d h = inl h

  begins_out : (side : Side) (es : List Event) (d : Duet) → StaysOut ta.setup tb.setup side es d → ¬ (IsOpenedAt side d)
  begins_out side [] d h = h
  begins_out side (e ∷ es) d h = h.0

  -- from the state after an end left Opened to the one before it enters
  once_out : (side : Side) (es : List Event) (enter : Event) (d : Duet) → IsNarrowWhereTaken ta.setup tb.setup (es ++ enter ∷ []) d → Holds ta tb d →
      IsOpenedAt side (then (run ta.setup tb.setup es d) enter) → Waits (Out side es d) side d → Out side es d
  once_out side es enter d narrow h opened (inl k) = k
  once_out side [] enter d narrow h opened (inr k) = waits_entered (Out side [] d) side d enter narrow.0 h opened (inr k)
  once_out side (e ∷ es) enter d narrow h opened (inr k) =
      let later = (event_goes compat ta tb used_a used_b d e narrow.0 h).holds in
      ⊎_elim {C = Out side (e ∷ es) d} (λ o. o) (λ w. inr (once_out side es enter (then d e) narrow.1 later opened (inr w)))
      (waits_on (Out side (e ∷ es) d) side d e narrow.0 h (λ o. inl o) (λ o. inr (first_out side es (then d e) o)) (inr k))

  pub reopening : (side : Side) (before : List Event) (leave : Event) (between : List Event) (enter : Event) →
      let opened = run ta.setup tb.setup before (start ta.setup tb.setup) in
      let left = then opened leave in
      let entered = then (run ta.setup tb.setup between left) enter in
      IsNarrowRun ta.setup tb.setup (before ++ leave ∷ (between ++ enter ∷ [])) (start ta.setup tb.setup) →
      IsOpenedAt side opened → StaysOut ta.setup tb.setup side between left → IsOpenedAt side entered → Out side between left
  reopening side before leave between enter narrow opened out entered =
      let first = start ta.setup tb.setup in
      let rest : List Event = leave ∷ (between ++ enter ∷ []) in
      let d = run ta.setup tb.setup before first in
      let taken = where_taken ta.setup tb.setup (before ++ rest) first narrow in
      let onward = narrow_back ta.setup tb.setup before rest first taken in
      let h = run_holds compat ta tb used_a used_b before first (narrow_front ta.setup tb.setup before rest first taken) (start_holds compat ta tb used_a used_b) in
      let h' = (event_goes compat ta tb used_a used_b d leave onward.0 h).holds in
      once_out side between enter (then d leave) onward.1 h' entered
      (inr (waits_left side d leave onward.0 h opened (begins_out side between (then d leave) out)))
