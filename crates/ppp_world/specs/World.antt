-- A world as its calls see it: the two ends, the steps done, the report so far, and why it takes no further step.
use Rattle.std.specs.Prelude.{◌≡◌, ℕ, zero, suc, Bool, ◌+◌, ◌*◌, ◌≤◌, List, [], ◌∷◌, ◌++◌, length, Option, Some, None, Result, Ok, Err, ⊤}
use Rattle.ppp_conf.specs.Config.{Settings as Config}
use Rattle.ppp_packet.specs.declared.proto.Proto.{Proto}
use Rattle.ppp_party.specs.Counted.{AreCounted}
use Rattle.ppp_party.specs.Held.{IsHeld}
use Rattle.ppp_party.specs.Calls.{answer_in}
use Rattle.ppp_party.specs.Party.{Ends, ends_begun, station_of}
use Rattle.ppp_party.specs.Spans.{NarrowOn}
use Rattle.ppp_script.specs.declared.event.Event.{Event}
use Rattle.ppp_bap.specs.declared.call_ask.CallAsk.{CallAsk}
use Rattle.ppp_bap.specs.declared.ask_refused.AskRefused.{AskRefused}
use Rattle.ppp_station.specs.Station.{BeginsBy, IsStation, Station, asks_peer}
use Rattle.ppp_world.specs.Outstanding.{outstanding_in}
use Rattle.ppp_script.specs.declared.end.End.{End}
use Rattle.ppp_world.specs.AskLine.{ask_line_if}
use Rattle.ppp_world.specs.Makes.{Lends, MakesEverywhere, SentEverywhere}
use Rattle.ppp_world.specs.Run.{AgreeEverywhere, Moment, Place, moment_at, deliveries, moments_of, shown, shown_at}
use Rattle.ppp_world.specs.SameControl.{SameControl}
use Rattle.ppp_world.specs.Says.{Says}
use Rattle.ppp_world.specs.Step.{IsSaid, IsShort, moved, next_delivery, party_at, settling, step_of, word_of}
use Rattle.ppp_world.specs.declared.outstanding.Outstanding.{Outstanding as Outstanding'}
use Rattle.ppp_world.specs.declared.step.Step.{Step}
use Rattle.ppp_world.specs.declared.step.Step.TheVariants.{Asks}
use Rattle.ppp_world.specs.declared.world_fault.WorldFault.{WorldFault}
use Rattle.ppp_world.specs.declared.world_fault.WorldFault.TheVariants.{Memory, Outstanding}

pub record World : Type 0 where
  -- end a is the first
  pub ends : Ends
  pub steps : ℕ
  pub report : List ℕ
  pub halt : Option WorldFault

-- the same with the policies of both ends
pub record Whole (F G : Type 0) : Type 0 where
  pub policy_a : F
  pub policy_b : G
  pub world : World

-- and the two ends with theirs
pub record Pair (F G : Type 0) : Type 0 where
  pub policy_a : F
  pub policy_b : G
  pub ends : Ends

-- a world as its parts say
abbrev pub world_of : Ends → ℕ → List ℕ → Option WorldFault → World
world_of ends steps report halt = record { ends = ends; steps = steps; report = report; halt = halt }

abbrev pub world_begun : Station → Station → World
world_begun own other = world_of (ends_begun own other) 0 [] None

-- two stations begin by the settings
pub record BothBegin (c : Config) (own other : Station) : Type 0 where
  pub a : BeginsBy c.a own
  pub b : BeginsBy c.b other

-- a world is as it begins by the settings
pub record IsBegun (c : Config) (w : World) : Type 0 where
  pub begin : BothBegin c (station_of w.ends.own) (station_of w.ends.other)
  pub is : w ≡ world_begun (station_of w.ends.own) (station_of w.ends.other)

abbrev pub place_of : World → Place
place_of w = record { done = w.steps; ends = w.ends }

-- The step of a moment is counted and its report written, unless it is refused.
abbrev pub written_by : World → Moment → Option Outstanding' → World
written_by w m None = world_of m.after m.number (w.report ++ shown m) None
written_by w m (Some fault) = world_of m.after w.steps w.report (Some (Outstanding fault))

-- nothing more is done after a halt
abbrev pub unless_halted : Option WorldFault → World → World → World
unless_halted None w next = next
unless_halted (Some fault) w next = w

unfoldable pub does_moment : World → Moment → World
does_moment w m = unless_halted w.halt w (written_by w m (outstanding_in m.after))

abbrev pub does_moments : World → List Moment → World
does_moments w [] = w
does_moments w (m ∷ ms) = does_moments (does_moment w m) ms

-- a step, and an event of a script, for what the policies answer
abbrev pub does_step : Says → World → Step → World
does_step says w step = does_moment w (moment_at says (place_of w) step)

abbrev pub world_after : Says → World → Event → World
world_after says w event = does_moments w (moments_of says event (place_of w))

-- so many deliveries
abbrev pub settled : Says → ℕ → World → World
settled says count w = does_moments w (deliveries says count (place_of w))

-- what a step answers
abbrev pub answer_of : Option WorldFault → Result (Unit {0}) WorldFault
answer_of None = Ok tt
answer_of (Some fault) = Err fault

-- why a step wasn't done, if it wasn't
abbrev pub fault_in : Result (Unit {0}) WorldFault → Option WorldFault
fault_in (Ok done) = None
fault_in (Err fault) = Some fault

-- a fact that want of memory leaves open
abbrev pub UnlessMemory : Option WorldFault → Type 0 → Type 0
UnlessMemory None fact = fact
UnlessMemory (Some Memory) fact = Unit {0}
UnlessMemory (Some (Outstanding fault)) fact = fact

-- ---- what an event does, whatever the policies say

-- A step: the policy that is asked in it, if one is, answers what it may, and the step is what follows from that. If it is done,
-- two Opened ends of a protocol agree, on each link; what is under way is spelt as it is sent; bundles of the same links have the
-- same control link; the step is for the two ends of each protocol a list of their events; and a delivery's link lends its frame.
pub record DoesStep (may : End → CallAsk → Bool → Type 0) (step : Step) (old new : World) : Type 0 where
  pub says : Says
  pub said : old.halt ≡ None → IsSaid may says (old.steps + 1) old.ends step
  pub world : new ≡ does_step says old step
  pub agreed : old.halt ≡ None → new.halt ≡ None → AgreeEverywhere new.ends
  pub sent : old.halt ≡ None → new.halt ≡ None → SentEverywhere new.ends
  pub control : old.halt ≡ None → new.halt ≡ None → SameControl new.ends
  pub makes : old.halt ≡ None → new.halt ≡ None → MakesEverywhere old.ends (moment_at says (place_of old) step)
  pub lends : old.halt ≡ None → new.halt ≡ None → Lends old.ends (moment_at says (place_of old) step)

-- so many deliveries, one after the other
abbrev pub Settles : (End → CallAsk → Bool → Type 0) → ℕ → World → World → Type 0
Settles may zero old new = new ≡ old
Settles may (suc count) old new = (mid : World) × DoesStep may (next_delivery old.ends) old mid × Settles may count mid new

-- an event of a script
abbrev pub DoesBy : (End → CallAsk → Bool → Type 0) → Option ℕ → Event → World → World → Type 0
DoesBy may (Some count) event old new = Settles may count old new
DoesBy may None event old new = DoesStep may (step_of (length old.ends.own.trunk.links) event) old new

abbrev pub Does : (End → CallAsk → Bool → Type 0) → Event → World → World → Type 0
Does may event old new = DoesBy may (settling event) event old new

-- a step of the two ends is what follows from what the policies answer, and sends no frame that is too long
pub record Moved (may : End → CallAsk → Bool → Type 0) (k : ℕ) (step : Step) (before after : Ends) : Type 0 where
  pub says : Says
  pub said : IsSaid may says k before step
  pub is : after ≡ moved says k before step
  pub short : IsShort says k before step

-- what is answered to one who asks, in a step
abbrev pub IsAnswerIn : ℕ → Ends → Step → Option (Result ⊤ AskRefused) → Type 0
IsAnswerIn k e (Asks at l what) a = a ≡ answer_in (asks_peer l what (station_of (party_at at e)) (word_of at k)).out.entries
IsAnswerIn k e step a = ⊤

-- what is reported of a step is written behind a report
abbrev pub Shows : ℕ → Step → Option (Result ⊤ AskRefused) → Ends → List ℕ → List ℕ → Type 0
Shows k (Asks at l what) a e old new = new ≡ old ++ ask_line_if k at what a
Shows k step a e old new = new ≡ old ++ shown_at k [] e step

-- ---- what a world keeps until it halts

-- No end draws more ordinals for a protocol than this in a step.
abbrev pub most_a_step : ℕ
most_a_step = 16384

-- Both ends have as many links, one at least. Of each protocol on each link the laws on two ends hold, or one end doesn't speak it; and no
-- span is too wide.
pub record IsSound (e : Ends) (steps : ℕ) : Type 0 where
  pub station_a : IsStation (station_of e.own)
  pub station_b : IsStation (station_of e.other)
  pub some : 1 ≤ length e.own.trunk.links
  pub alike : length e.other.trunk.links ≡ length e.own.trunk.links
  pub held : (m : ℕ) (p : Proto) → 1 ≤ m → m ≤ length e.own.trunk.links → IsHeld m p e
  pub narrow : (m : ℕ) (p : Proto) → 1 ≤ m → m ≤ length e.own.trunk.links → NarrowOn m p e
  pub counted_a : AreCounted (most_a_step * steps) e.own
  pub counted_b : AreCounted (most_a_step * steps) e.other

abbrev pub IsSoundUnless : Option WorldFault → Ends → ℕ → Type 0
IsSoundUnless None e steps = IsSound e steps
IsSoundUnless (Some fault) e steps = ⊤
