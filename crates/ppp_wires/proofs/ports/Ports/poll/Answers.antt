use Rattle.std.proofs.Common.{ap, arith}
use Rattle.ppp_wires.specs.Port.{without_first}
use Rattle.ppp_wires.specs.Place.{PlaceState}
use Rattle.ppp_wires.proofs.PortsLemmas.{changed}
use Rattle.ppp_wires.proofs.ports.Ports.poll.Goals as goal

pub returns-then-waiting-gt0-clause-after : goal.returns-then-waiting-gt0-clause-after
returns-then-waiting-gt0-clause-after c = changed _ _ _ _ _ _ (without_first c.give.result) c.self.view_is (omega arith) c.index_mut-place.ensures.value (ap (λ (x : PlaceState). x.port) c.give.ensures.after)
