use Rattle.ppp_mp.proofs.BeginsLemmas.{received-begins}
use Rattle.ppp_mp.proofs.laws.begun.Goals as goal

pub returns : goal.returns
returns c = received-begins
