use Rattle.ppp_world.proofs.SameControlLemmas.{same-control}
use Rattle.ppp_world.proofs.laws.same_control.Goals as goal

pub returns : goal.returns
returns c = λ e stations agree. same-control e stations agree
