use Rattle.ppp_pair.proofs.DeliveryLemmas.{crossing_once, included, kept_once}
use Rattle.ppp_pair.proofs.laws.included.Goals as goal

pub returns : goal.returns
returns c = record { included = included; crossing = crossing_once; kept = kept_once }
