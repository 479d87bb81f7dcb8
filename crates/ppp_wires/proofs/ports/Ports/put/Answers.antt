use Rattle.std.proofs.Common.{◌≡◌, ◌≤◌, ◌-◌, ◌∙◌, ap, take, length, min, arith}
use Rattle.ppp_wires.specs.Port.{held, with_more}
use Rattle.ppp_wires.specs.Ports.{port_at}
use Rattle.ppp_wires.specs.Place.{PlaceState}
use Rattle.ppp_wires.specs.PortsState.{PortsState}
use Rattle.ppp_wires.proofs.PortsLemmas.{changed, port-here}
use Rattle.ppp_wires.proofs.ports.Ports.put.Goals as goal

pub returns-in-Some : goal.returns-in-Some
returns-in-Some c =
    let below : c.in-Some.port ≤ 32 = rw c.in-Some.is at c.requires in
    let here : port_at c.args.self.now.ports c.in-Some.port ≡ c.index_mut-place.result.now.port = rw (← c.self.view_is) (port-here c.self.inside.places.items c.in-Some.port c.index_mut-place.result.now (omega arith) c.index_mut-place.ensures.value) in
    let alike : c.index_mut-place.result.now.room ≡ c.args.self.now.room = ap (λ (x : PlaceState). x.room) c.index_mut-place.ensures.value ∙ (c.self.invariant.alike c.in-Some.port c.index_mut-place.result.now (omega arith)).room ∙ ap (λ (s : PortsState). s.room) c.self.view_is in
    let fit = min (length c.args.piece.now) (c.args.self.now.room - length (held (port_at c.args.self.now.ports c.in-Some.port))) in
    rw c.in-Some.is (changed _ _ _ _ _ _ (with_more (take fit c.args.piece.now)) c.self.view_is (omega arith) c.index_mut-place.ensures.value (rw (here, ← alike) (ap (λ (x : PlaceState). x.port) c.put.ensures)))
