use Rattle.ppp_mp.proofs.PassageLemmas.{in-order}
use Rattle.ppp_mp.proofs.laws.in_order.Goals as goal

pub returns : goal.returns
returns c = in-order
