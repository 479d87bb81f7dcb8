use Rattle.std.proofs.Common.{length}
use Rattle.ppp_auto.specs.Judged.{judging_by}
use Rattle.ppp_auto.proofs.JudgedLemmas.{Walks}
use Rattle.ppp_auto.proofs.judged.Judged.judge.Given as goal

abbrev pub invariant-options : goal.invariant-options
invariant-options g l = Walks (judging_by (g.T.OptionTable.table l.table) l.own l.word) l.fn.self.spent l.theirs l.left l.seen l.self

abbrev pub decreases-options : goal.decreases-options
decreases-options g l = length l.left
