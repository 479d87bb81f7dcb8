use Rattle.ppp_pair.proofs.Runs.{crossing}
use Rattle.ppp_pair.proofs.laws.crossing.Goals as goal

pub returns : goal.returns
returns c = crossing
