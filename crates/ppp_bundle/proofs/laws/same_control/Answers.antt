use Rattle.ppp_bundle.proofs.MirrorLemmas.{control-same}
use Rattle.ppp_bundle.proofs.laws.same_control.Goals as goal

pub returns : goal.returns
returns c = control-same
