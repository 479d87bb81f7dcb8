use Rattle.std.proofs.Common.{inl, inr}
use Rattle.ppp_world.proofs.CountedLemmas.{counts-still}
use Rattle.ppp_world.proofs.MovedLemmas.{moved-reports, moved-rests}
use Rattle.ppp_world.proofs.two_ends.TwoEnds.act.Goals as goal

pub returns-in-Reports-clause-done : goal.returns-in-Reports-clause-done
returns-in-Reports-clause-done g c = elim c.in-Reports.is [
  | inl is ↦ rw is (moved-reports _ _ _)
  | inr is ↦ rw is (moved-rests _ _ _)
]

pub returns-in-Reports-clause-counts : goal.returns-in-Reports-clause-counts
returns-in-Reports-clause-counts g c = counts-still c.args.self.now.ends

pub returns-in-Loses-clause-done : goal.returns-in-Loses-clause-done
returns-in-Loses-clause-done g c = rw c.in-Loses.is (c.lose.ensures.done c.args.number)
