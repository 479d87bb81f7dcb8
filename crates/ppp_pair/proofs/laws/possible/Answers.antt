use Rattle.ppp_pair.proofs.PossibilityLemmas.{once_closed, once_granted}
use Rattle.ppp_pair.proofs.laws.possible.Goals as goal

pub returns : goal.returns
returns c = record { granted = once_granted; closed = once_closed }
