-- What holds of every state that is reached: what layers above cite.
use Rattle.std.proofs.Common.{◌≡◌, inr, List, [], ◌∷◌, ◌++◌, take, refl, sym, ap, subst, ◌∙◌}
use Rattle.ppp_packet.specs.ConfigOption.{ConfigOption}
use Rattle.ppp_auto.specs.declared.auto_state.AutoState.TheVariants.{Opened}
use Rattle.ppp_auto.specs.Packet.{Request}
use Rattle.ppp_duet.specs.Agreement.{Agree}
use Rattle.ppp_duet.specs.Duet.{End, Duet, Marked, Setup, Side, Event, happens, run, start}
use Rattle.ppp_duet.specs.NarrowRun.{IsNarrowRun, NarrowIfTaken, IsNarrowWhereTaken}
use Rattle.ppp_duet.specs.Reached.{Reached, IsKeptIn, Lists, Carried, IdsFollow, OldestFirst}
use Rattle.ppp_duet.specs.Reopening.{IsOpenedAt, IsOpenedBeyond, Waits}
use Rattle.ppp_duet.specs.Span.{requests, answers, least}
use Rattle.ppp_duet.specs.Terms.{Terms, AreLawful, KeptBy}
use Rattle.ppp_duet.proofs.AgreementLemmas.{opened_agree}
use Rattle.ppp_duet.proofs.Events.{run_holds, start_holds}
use Rattle.ppp_duet.proofs.Invariant.{Asked, Half, Holds}
use Rattle.ppp_duet.proofs.NarrowRunLemmas.{where_taken, run_append, narrow_append}
use Rattle.ppp_duet.proofs.Queues.{all_weaker, options_in, rising_within}
use Rattle.ppp_duet.proofs.ReopeningLemmas.{waits_left, waits_on, waits_entered}
use Rattle.ppp_duet.proofs.SpanLemmas.{oldest_first}
use Rattle.ppp_duet.proofs.TermsLemmas.{Used, used, with_kept, used_with, plain_terms, plain_used}

pub reached_start : (sa sb : Setup) → Reached sa sb (start sa sb)
reached_start sa sb = record { events = []; narrow = tt; ends = refl }

-- one event more
pub reached_on : (sa sb : Setup) (d : Duet) (e : Event) → NarrowIfTaken e.what d → Reached sa sb d → Reached sa sb (happens sa sb d e)
reached_on sa sb d e narrow r = record {
  events = r.events ++ e ∷ [];
  narrow = narrow_append sa sb r.events (e ∷ []) (start sa sb) r.narrow (subst (NarrowIfTaken e.what) (sym r.ends) narrow, tt);
  ends = run_append sa sb r.events (e ∷ []) (start sa sb) ∙ ap (λ x. happens sa sb x e) r.ends;
}

-- a whole run
pub reached_run : (sa sb : Setup) (es : List Event) → IsNarrowWhereTaken sa sb es (start sa sb) → Reached sa sb (run sa sb es (start sa sb))
reached_run sa sb es narrow = record { events = es; narrow = narrow; ends = refl }

-- what is so of each reached state with both ends Opened is so of narrow runs
pub opened_run : (sa sb : Setup) (fact : Duet → Type 0) →
    ((d : Duet) → Reached sa sb d → d.a.auto.state ≡ Opened → d.b.auto.state ≡ Opened → fact d) →
    (es : List Event) → IsNarrowRun sa sb es (start sa sb) →
    (run sa sb es (start sa sb)).a.auto.state ≡ Opened → (run sa sb es (start sa sb)).b.auto.state ≡ Opened →
    fact (run sa sb es (start sa sb))
opened_run sa sb fact at es narrow =
    at (run sa sb es (start sa sb)) (reached_run sa sb es (where_taken sa sb es (start sa sb) narrow))

-- several events more
pub reached_more : (sa sb : Setup) (d : Duet) (es : List Event) → IsNarrowWhereTaken sa sb es d → Reached sa sb d → Reached sa sb (run sa sb es d)
reached_more sa sb d [] narrow r = r
reached_more sa sb d (e ∷ es) narrow r = reached_more sa sb (happens sa sb d e) es narrow.1 (reached_on sa sb d e narrow.0 r)

-- the invariant, for a property of lists that each end's table keeps
pub reached_holds : (compat : List ConfigOption → List ConfigOption → Type 0) (ta tb : Terms) → Used compat ta → Used compat tb → (d : Duet) →
    Reached ta.setup tb.setup d → Holds ta tb d
reached_holds compat ta tb used_a used_b d r =
    subst (Holds ta tb) r.ends (run_holds compat ta tb used_a used_b r.events (start ta.setup tb.setup) r.narrow (start_holds compat ta tb used_a used_b))

-- what holds whatever the tables
any_holds : (sa sb : Setup) (d : Duet) → Reached sa sb d → Holds (plain_terms sa) (plain_terms sb) d
any_holds sa sb d r = reached_holds (λ _ _. Unit {0}) (plain_terms sa) (plain_terms sb) (plain_used sa) (plain_used sb) d r

pub ids_at : (sa sb : Setup) (d : Duet) → Reached sa sb d → IdsFollow sa sb d
ids_at sa sb d r = let h = any_holds sa sb d r in record { of_a = h.of_a.ids; of_b = h.of_b.ids }

oldest : (te tf : Terms) (e f : End) (out back : List Marked) → Half te tf e f out back →
    least e.n (requests out ++ answers back) ≡ least e.n (take 1 (requests out) ++ take 1 (answers back))
oldest te tf e f out back h = oldest_first f.got f.got e.n (requests out) (answers back) (rising_within f.got e.n (requests out) h.rising) h.rising h.answered

pub oldest_at : (sa sb : Setup) (d : Duet) → Reached sa sb d → OldestFirst d
oldest_at sa sb d r =
    let ta = plain_terms sa in
    let tb = plain_terms sb in
    let h = any_holds sa sb d r in
    record { of_a = oldest ta tb d.a d.b d.to_b d.to_a h.of_a; of_b = oldest tb ta d.b d.a d.to_a d.to_b h.of_b }

asked_kept : (t : Terms) (keeps : List ConfigOption → Type 0) (e : End) (m : Marked) → Asked (with_kept t keeps) e m → IsKeptIn keeps m
asked_kept t keeps e m h id options is = let k : keeps (options_in (Request id options)) = rw is at (h id (rw is)).3.1 in k

lists : (te tf : Terms) (keeps : List ConfigOption → Type 0) (e f : End) (out back : List Marked) → Half (with_kept te keeps) tf e f out back →
    Lists keeps e f out
lists te tf keeps e f out back h = record {
  own = h.keeps_own.1;
  under_way = all_weaker (asked_kept te keeps e) out h.asked;
  acknowledged = λ acked. (h.keeps_peer acked).1;
}

module _ (compat : List ConfigOption → List ConfigOption → Type 0) (ta tb : Terms) (lawful_a : AreLawful compat ta) (lawful_b : AreLawful compat tb) where
  reached_sends : (d : Duet) → Reached ta.setup tb.setup d → Holds ta tb d
  reached_sends = reached_holds compat ta tb (used compat ta lawful_a) (used compat tb lawful_b)

  pub agreement_at : (d : Duet) → Reached ta.setup tb.setup d → d.a.auto.state ≡ Opened → d.b.auto.state ≡ Opened →
      Agree ta.keeps tb.keeps ta.allows tb.allows compat d
  agreement_at d r = opened_agree compat ta tb (used compat ta lawful_a) (used compat tb lawful_b) d (reached_sends d r)

  -- a property that a table keeps is one of each list that its end asks for and the other one acknowledged
  pub carried_at : (keeps_a keeps_b : List ConfigOption → Type 0) → KeptBy ta.setup.table keeps_a → KeptBy tb.setup.table keeps_b → (d : Duet) →
      Reached ta.setup tb.setup d →
      Carried keeps_a keeps_b d
  carried_at keeps_a keeps_b kept_a kept_b d r =
      let ka = with_kept ta keeps_a in
      let kb = with_kept tb keeps_b in
      let h = reached_holds compat ka kb (used_with compat ta keeps_a lawful_a kept_a) (used_with compat tb keeps_b lawful_b kept_b) d r in
      record { of_a = lists ta kb keeps_a d.a d.b d.to_b d.to_a h.of_a; of_b = lists tb ka keeps_b d.b d.a d.to_a d.to_b h.of_b }

  -- an end leaves Opened
  pub left_at : (out : Type 0) (side : Side) (d : Duet) (e : Event) → Reached ta.setup tb.setup d → NarrowIfTaken e.what d →
      IsOpenedAt side d → ¬ (IsOpenedAt side (happens ta.setup tb.setup d e)) → Waits out side (happens ta.setup tb.setup d e)
  left_at out side d e r narrow opened left =
      inr (waits_left compat ta tb (used compat ta lawful_a) (used compat tb lawful_b) side d e narrow (reached_sends d r) opened left)

  -- one event later
  pub onward_at : (out : Type 0) (side : Side) (d : Duet) (e : Event) → Reached ta.setup tb.setup d → NarrowIfTaken e.what d →
      (¬ (IsOpenedBeyond side d) → out) → (¬ (IsOpenedBeyond side (happens ta.setup tb.setup d e)) → out) →
      Waits out side d → Waits out side (happens ta.setup tb.setup d e)
  onward_at out side d e r narrow = waits_on compat ta tb (used compat ta lawful_a) (used compat tb lawful_b) out side d e narrow (reached_sends d r)

  -- an end enters Opened, so the other one was outside it
  pub entered_at : (out : Type 0) (side : Side) (d : Duet) (e : Event) → Reached ta.setup tb.setup d → NarrowIfTaken e.what d →
      IsOpenedAt side (happens ta.setup tb.setup d e) → Waits out side d → out
  entered_at out side d e r narrow = waits_entered compat ta tb (used compat ta lawful_a) (used compat tb lawful_b) out side d e narrow (reached_sends d r)
