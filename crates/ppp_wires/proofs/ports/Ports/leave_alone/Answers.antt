use Rattle.std.proofs.Common.{◌≤◌, ap, arith}
use Rattle.ppp_wires.specs.Place.{PlaceState}
use Rattle.ppp_wires.specs.Port.{left_alone}
use Rattle.ppp_wires.proofs.PortsLemmas.{changed}
use Rattle.ppp_wires.proofs.ports.Ports.leave_alone.Goals as goal

pub returns-in-Some : goal.returns-in-Some
returns-in-Some c =
    let below : c.in-Some.number ≤ 32 = rw c.in-Some.is at c.requires in
    rw c.in-Some.is (changed _ _ _ _ _ _ left_alone c.self.view_is (omega arith) c.index_mut-place.ensures.value (ap (λ (x : PlaceState). x.port) c.leave_alone.ensures))
