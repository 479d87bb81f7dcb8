use Rattle.ppp_bap.proofs.RequestsLemmas.{sound-ended}
use Rattle.ppp_bap.proofs.bap.Bap.take_response.Goals as goal

pub invariant_of-self : goal.invariant_of-self
invariant_of-self g c = (c.self.invariant.0, sound-ended c.from-bundle.result _ c.self.invariant.1)
