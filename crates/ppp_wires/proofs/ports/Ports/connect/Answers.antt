use Rattle.std.proofs.Common.{[], ap, arith}
use Rattle.ppp_wires.specs.Port.{Calls}
use Rattle.ppp_wires.specs.Place.{PlaceState}
use Rattle.ppp_wires.proofs.PortsLemmas.{changed}
use Rattle.ppp_wires.proofs.ports.Ports.connect.Goals as goal

pub returns-clause-after : goal.returns-clause-after
returns-clause-after c = rw c.if-listen.false (changed _ _ _ _ _ _ (λ p. Calls c.args.name.now []) c.self.view_is (omega (arith, c.requires.port)) c.index_mut-place.ensures.value (ap (λ (x : PlaceState). x.port) c.call.ensures))
