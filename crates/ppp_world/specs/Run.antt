-- The run of a script, its report, and the first step that is refused.
use Rattle.std.specs.Prelude.{ℕ, zero, suc, ◌+◌, List, [], ◌∷◌, ◌++◌, length, All, Option, Some, None}
use Rattle.ppp_party.specs.Calls.{answer_in}
use Rattle.ppp_party.specs.Party.{Ends, ends_begun}
use Rattle.ppp_script.specs.declared.event.Event.{Event}
use Rattle.ppp_station.specs.Station.{Station}
use Rattle.ppp_trunk.specs.StationOut.{Entry}
use Rattle.ppp_packet.specs.declared.proto.Proto.{Proto}
use Rattle.ppp_world.specs.Agreement.{AgreesOn}
use Rattle.ppp_world.specs.AskLine.{ask_line_if}
use Rattle.ppp_world.specs.Outstanding.{outstanding_in}
use Rattle.ppp_world.specs.Report.{told_block}
use Rattle.ppp_world.specs.Says.{Says}
use Rattle.ppp_world.specs.Step.{step_of, settling, next_delivery, entries_made, moved}
use Rattle.ppp_world.specs.declared.outstanding.Outstanding.{Outstanding}
use Rattle.ppp_world.specs.declared.refusal.Refusal.{Refusal}
use Rattle.ppp_world.specs.declared.step.Step.{Step}
use Rattle.ppp_world.specs.declared.step.Step.TheVariants.{Happens, Delivers, Asks, Tells, Tries, Loses, Reboots, Reports, Rests}

-- a step that was done: its number, what it was, the entries that the stations made, and the two ends after it
pub record Moment : Type 0 where
  pub number : ℕ
  pub step : Step
  pub entries : List Entry
  pub after : Ends

-- the two ends after so many steps
pub record Place : Type 0 where
  pub done : ℕ
  pub ends : Ends

-- the moment of a step there
abbrev pub moment_at : Says → Place → Step → Moment
moment_at says p step = record {
  number = p.done + 1;
  step = step;
  entries = entries_made says (p.done + 1) p.ends step;
  after = moved says (p.done + 1) p.ends step;
}

abbrev pub after_moment : Moment → Place
after_moment m = record { done = m.number; ends = m.after }

-- so many deliveries
abbrev pub deliveries : Says → ℕ → Place → List Moment
deliveries says zero p = []
deliveries says (suc count) p =
    let m = moment_at says p (next_delivery p.ends) in m ∷ deliveries says count (after_moment m)

-- the moments of an event: as many as it has steps
abbrev pub moments_by : Says → Option ℕ → Event → Place → List Moment
moments_by says (Some count) event p = deliveries says count p
moments_by says None event p = moment_at says p (step_of (length p.ends.own.trunk.links) event) ∷ []

abbrev pub moments_of : Says → Event → Place → List Moment
moments_of says event p = moments_by says (settling event) event p

abbrev pub place_after : Place → List Moment → Place
place_after p [] = p
place_after p (m ∷ ms) = place_after (after_moment m) ms

abbrev pub run_from : Says → Place → List Event → List Moment
run_from says p [] = []
run_from says p (event ∷ events) = let ms = moments_of says event p in ms ++ run_from says (place_after p ms) events

abbrev pub place_begun : Station → Station → Place
place_begun own other = record { done = 0; ends = ends_begun own other }

-- The run of these events from the beginning of these stations, for what the policies answer: every step with the two ends after
-- it.
abbrev pub run_of : Says → Station → Station → List Event → List Moment
run_of says own other events = run_from says (place_begun own other) events

-- what is reported of a step
abbrev pub shown_at : ℕ → List Entry → Ends → Step → List ℕ
shown_at k entries e Reports = told_block k e
shown_at k entries e (Asks at l what) = ask_line_if k at what (answer_in entries)
shown_at k entries e (Happens at l what) = []
shown_at k entries e (Delivers at l) = []
shown_at k entries e (Tells at l status) = []
shown_at k entries e (Tries at l) = []
shown_at k entries e (Loses at l place) = []
shown_at k entries e (Reboots at) = []
shown_at k entries e Rests = []

abbrev pub shown : Moment → List ℕ
shown m = shown_at m.number m.entries m.after m.step

abbrev pub report : List Moment → List ℕ
report [] = []
report (m ∷ ms) = shown m ++ report ms

-- the first step of a run that is refused, if there is one, and the steps before it
abbrev pub refusal_with : Moment → Option Outstanding → Option Refusal → Option Refusal
refusal_with m (Some fault) later = Some (record { step = m.number; fault = fault })
refusal_with m None later = later

abbrev pub refusal : List Moment → Option Refusal
refusal [] = None
refusal (m ∷ ms) = refusal_with m (outstanding_in m.after) (refusal ms)

abbrev pub kept_with : Moment → Option Outstanding → List Moment → List Moment
kept_with m (Some fault) later = []
kept_with m None later = m ∷ later

abbrev pub before_refusal : List Moment → List Moment
before_refusal [] = []
before_refusal (m ∷ ms) = kept_with m (outstanding_in m.after) (before_refusal ms)

-- what a replay reports: the steps before the first that is refused
abbrev pub report_of : Says → Station → Station → List Event → List ℕ
report_of says own other events = report (before_refusal (run_of says own other events))

-- two Opened ends of a protocol agree, on each link
abbrev pub AgreeEverywhere : Ends → Type 0
AgreeEverywhere e = (m : ℕ) (p : Proto) → AgreesOn m p e

-- so they do after every step of a run
abbrev pub AgreeThroughout : List Moment → Type 0
AgreeThroughout ms = All (λ m. AgreeEverywhere m.after) ms

-- and so they do from the start of the run of these events up to the first step that is refused
pub record AgreesInRun (says : Says) (own other : Station) (events : List Event) : Type 0 where
  pub first : AgreeEverywhere (ends_begun own other)
  pub each : AgreeThroughout (before_refusal (run_of says own other events))
