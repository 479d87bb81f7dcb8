use Rattle.ppp_pair.proofs.MatchLemmas.{matching}
use Rattle.ppp_pair.proofs.laws.matching.Goals as goal

pub returns : goal.returns
returns c = matching
