use Rattle.std.proofs.Common.{[], ap}
use Rattle.ppp_auto.specs.Auto.{auto_seen}
use Rattle.ppp_auto.specs.Taken.{Taken}
use Rattle.ppp_auto.proofs.TakenLemmas.{command_fit}
use Rattle.ppp_auto.proofs.automaton.Automaton.event.Goals as goal

pub do_row-requires-clause-input : goal.do_row-requires-clause-input
do_row-requires-clause-input g c = ap (λ (t : Taken). t.input) (c.plain.ensures [])

pub do_row-requires-clause-fit : goal.do_row-requires-clause-fit
do_row-requires-clause-fit g c =
    rw (← c.self.view_is, c.plain.ensures c.self.inside.auto.own, c.input_of-input.ensures)
    (command_fit (g.T.OptionTable.sendable c.self.inside.table) (auto_seen c.self.inside.auto) c.args.ev 0 c.self.invariant.sends)
