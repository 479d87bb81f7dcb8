use Rattle.std.proofs.Common.{◌∙◌, ap, length}
use Rattle.ppp_auto.specs.Auto.{auto_seen}
use Rattle.ppp_auto.specs.Automaton.{does_row, entries_of}
use Rattle.ppp_auto.specs.EventTable.{Cell, cell_seen}
use Rattle.ppp_auto.specs.Taken.{taken_seen}
use Rattle.ppp_auto.proofs.AutomatonLemmas.{cell_few, row_auto, row_entries}
use Rattle.ppp_auto.proofs.automaton.Automaton.do_row.Goals as goal

pub emit_all-requires-clause-few : goal.emit_all-requires-clause-few
emit_all-requires-clause-few g c = rw (ap (λ (x : Cell). length x.actions) c.of-cell.ensures) (cell_few _ _)

pub returns-clause-auto : goal.returns-clause-auto
returns-clause-auto g c =
    row_auto (g.T.OptionTable.table c.self.inside.table) (auto_seen c.self.inside.auto) (auto_seen c.go_on.new.self) c.args.input (cell_seen c.of-cell.result) (taken_seen c.self.inside.auto.own c.args.taken.now) c.args.word
    c.next_if-self-inside.result c.go_on.ensures.value c.of-cell.ensures (rw (← c.draws.ensures) c.next_if-self-inside.ensures)
    ∙ ap (λ v. (does_row (g.T.OptionTable.table v.0) v.1 c.args.input (taken_seen v.1.own c.args.taken.now) c.args.word).auto) c.self.view_is

pub returns-clause-out : goal.returns-clause-out
returns-clause-out g c =
    c.emit_all.ensures
    ∙ (row_entries (g.T.OptionTable.table c.self.inside.table) (auto_seen c.self.inside.auto) (auto_seen c.go_on.new.self) c.args.input (cell_seen c.of-cell.result) c.args.taken.now c.args.word
    c.go_on.new.self.own c.go_on.ensures.value c.of-cell.ensures
    ∙ ap (λ v. entries_of (does_row (g.T.OptionTable.table v.0) v.1 c.args.input (taken_seen v.1.own c.args.taken.now) c.args.word)) c.self.view_is)
