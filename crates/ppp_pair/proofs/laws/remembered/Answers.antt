use Rattle.ppp_pair.proofs.MemoryLemmas.{remembered}
use Rattle.ppp_pair.proofs.laws.remembered.Goals as goal

pub returns : goal.returns
returns c = remembered
