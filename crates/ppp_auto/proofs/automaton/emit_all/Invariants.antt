use Rattle.std.proofs.Common.{◌≡◌, ◌≤◌, ℕ, List, map, take, length}
use Rattle.ppp_auto.specs.declared.action.Action.{Action}
use Rattle.ppp_auto.specs.Auto.{Auto, auto_seen}
use Rattle.ppp_auto.specs.Automaton.{effects}
use Rattle.ppp_auto.specs.Outbox.{Entry, entry_of}
use Rattle.ppp_auto.specs.Taken.{Taken, taken_seen}
use Rattle.ppp_auto.proofs.automaton.emit_all.Given as goal

pub record Emitted (a : Auto) (taken : Taken) (actions : List Action) (done : ℕ) (out : List Entry) : Type 0 where
  pub entries : out ≡ map entry_of (effects a a taken (take done actions))
  pub few : length out ≤ done

abbrev pub invariant-actions : goal.invariant-actions
invariant-actions l = Emitted (auto_seen l.auto') (taken_seen l.auto'.own l.taken) l.actions l.action-index l.out
