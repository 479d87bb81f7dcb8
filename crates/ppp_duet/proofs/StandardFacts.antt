-- Runs of two ends, computed: over a table of one option.
use Rattle.std.proofs.Common.{◌≡◌, ℕ, zero, suc, Bool, false, ◌&&◌, ◌==◌, if◌then◌else◌, List, [], ◌∷◌, ◌++◌, length, None, refl, arith}
use Rattle.std.specs.List.{list_any}
use Rattle.ppp_packet.specs.ConfigOption.{ConfigOption}
use Rattle.ppp_auto.specs.declared.auto_state.AutoState.{AutoState}
use Rattle.ppp_auto.specs.declared.auto_state.AutoState.TheVariants.{ReqSent, AckSent, Opened}
use Rattle.ppp_auto.specs.declared.auto_event.AutoEvent.TheVariants.{Up, Down, AdminOpen, Timeout}
use Rattle.ppp_auto.specs.declared.verdict.Verdict.{Verdict}
use Rattle.ppp_auto.specs.declared.verdict.Verdict.TheVariants.{Good, Bad, Unknown}
use Rattle.ppp_auto.specs.Taken.{four_octets}
use Rattle.ppp_auto.specs.Automaton.{does_row}
use Rattle.ppp_duet.specs.Duet.{Duet, Setup, Side, A, B, Happening, Commands, Delivers, Event, at_first, does, takes, start, run}
use Rattle.ppp_duet.specs.Span.{span_of, Narrow}
use Rattle.ppp_auto.specs.Reply.{same_option}
use Rattle.ppp_auto.specs.OptionTable.{Table}

-- a table that asks for one number, of kind 5 and four octets, and wants the peer's to be another
abbrev number : ℕ → ConfigOption
number word = record { kind = 5; body = four_octets word }

abbrev is_number : ConfigOption → Bool
is_number o = (o.kind == 5) && (length o.body == 4)

abbrev judged : List ConfigOption → ConfigOption → Verdict
judged own o =
    if is_number o
    then if list_any (λ x. same_option x o) own then Bad (number 7) else Good
    else Unknown

abbrev tiny : Table
tiny = record {
  extended = false;
  initial = λ word. number word ∷ [];
  judge = λ own o word. judged own o;
  missing = λ own theirs word. None;
  adapt_nak = λ last nak word. last;
  adapt_reject = λ last reject word. last;
  magic = λ own. 0;
}

abbrev setup : Setup
setup = record { table = tiny; first = 1 }

abbrev event : Side → Happening → ℕ → Event
event side what word = record { side = side; what = what; word = word }

-- both ends come up and open, and so each one's request is under way
abbrev both_open : List Event
both_open =
    event A (Commands Up) 1 ∷ event A (Commands AdminOpen) 2 ∷ event B (Commands Up) 3 ∷ event B (Commands AdminOpen) 4 ∷ []

abbrev after_events : List Event → Duet
after_events es = run setup setup es (start setup setup)

-- the states that a run leads to
abbrev states : List Event → AutoState × AutoState
states es = ((after_events es).a.auto.state, (after_events es).b.auto.state)

abbrev first_run : List Event
first_run = both_open ++ event B Delivers 5 ∷ event A Delivers 6 ∷ event A Delivers 7 ∷ event B Delivers 8 ∷ []

both_opened : states first_run ≡ (Opened, Opened)
unfolding at_first does takes does_row
both_opened = refl

-- The first end's request is taken in and then repeated, with its Identifier: the Ack of the first one opens.
abbrev repeated_run : List Event
repeated_run = both_open ++ event B Delivers 5 ∷ event A (Commands Timeout) 6 ∷ event A Delivers 7 ∷ event A Delivers 8 ∷ []

opened_by_the_first : states repeated_run ≡ (Opened, AckSent)
unfolding at_first does takes does_row
opened_by_the_first = refl

-- The Ack of the repeated request comes to an Opened end, which asks anew (RFC 1661 section 4.1).
abbrev stale_run : List Event
stale_run = repeated_run ++ event B Delivers 9 ∷ event B Delivers 10 ∷ event A Delivers 11 ∷ []

stale_ack : states stale_run ≡ (ReqSent, Opened)
unfolding at_first does takes does_row
stale_ack = refl

-- and both come to Opened again
abbrev settled_run : List Event
settled_run = stale_run ++ event A Delivers 12 ∷ event B Delivers 13 ∷ event A Delivers 14 ∷ event B Delivers 15 ∷ event A Delivers 16 ∷ event B Delivers 17 ∷ []

both_opened_again : states settled_run ≡ (Opened, Opened)
unfolding at_first does takes does_row
both_opened_again = refl

-- the line of the first end goes down and comes up again, so many times
abbrev flaps : ℕ → List Event
flaps zero = []
flaps (suc n) = event A (Commands Down) 1 ∷ event A (Commands Up) 2 ∷ flaps n

abbrev flapping_run : ℕ → List Event
flapping_run n = event A (Commands Up) 1 ∷ event A (Commands AdminOpen) 2 ∷ flaps n

abbrev after_flaps : ℕ → Duet
after_flaps n = after_events (flapping_run n)

-- with 256 requests under way the span is the widest that is narrow
widest_span : span_of (after_flaps 255).a.n (after_flaps 255).to_b (after_flaps 255).to_a ≡ 255
unfolding at_first does takes does_row
widest_span = refl

at_the_boundary : Narrow (after_flaps 255)
unfolding at_first does takes does_row
at_the_boundary = record { of_a = omega arith; of_b = omega arith }

beyond_the_boundary : span_of (after_flaps 256).a.n (after_flaps 256).to_b (after_flaps 256).to_a ≡ 256
unfolding at_first does takes does_row
beyond_the_boundary = refl

not_narrow : ¬ (Narrow (after_flaps 256))
unfolding at_first does takes does_row
not_narrow h = omega (arith, h.of_a)
