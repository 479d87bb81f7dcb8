use Rattle.std.proofs.Common.{◌∙◌, arith, ap}
use Rattle.ppp_wires.specs.Port.{Free}
use Rattle.ppp_wires.specs.Place.{PlaceState}
use Rattle.ppp_wires.proofs.PortsLemmas.{changed}
use Rattle.ppp_wires.proofs.ports.Ports.hang.Goals as goal

pub returns : goal.returns
returns c = rw (← c.joined_to-other.ensures.value) (changed _ _ _ _ _ _ (λ p. Free) (c.self.view_is ∙ c.leave_alone.ensures) (omega arith) c.index_mut-place.ensures.value (ap (λ (x : PlaceState). x.port) c.hang.ensures))
