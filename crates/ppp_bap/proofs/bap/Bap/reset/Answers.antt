use Rattle.ppp_bap.proofs.RequestsLemmas.{sound-ended}
use Rattle.ppp_bap.proofs.bap.Bap.reset.Goals as goal

pub invariant_of-self : goal.invariant_of-self
invariant_of-self g c = (c.self.invariant.0, sound-ended c.from.result _ c.self.invariant.1)
