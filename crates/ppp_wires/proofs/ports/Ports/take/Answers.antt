use Rattle.std.proofs.Common.{◌≡◌, ap, List}
use Rattle.ppp_wires.specs.Port.{Port}
use Rattle.ppp_wires.specs.Ports.{port_at}
use Rattle.ppp_wires.specs.Place.{PlaceState}
use Rattle.ppp_wires.specs.PortsState.{ports_in}
use Rattle.ppp_wires.proofs.PortsLemmas.{places-taken, ports-taken, taker-port}
use Rattle.ppp_wires.proofs.ports.Ports.take.Goals as goal

pub invariant_of-self : goal.invariant_of-self
invariant_of-self c = places-taken c.self.inside.places.items c.swap.new.self.items c.self.inside.room c.args.port c.args.caller c.self.invariant c.swap.ensures.by_index c.requires.other c.requires.port c.requires.caller c.index_mut-taker.result.now c.take_over.new.self c.index_mut-taken.result.now c.join.new.self _ c.index_mut-taker.ensures.value c.take_over.ensures c.index_mut-taken.ensures.value c.join.ensures

pub returns : goal.returns
returns c =
    let was : c.index_mut-taker.result.now.port ≡ port_at (ports_in c.self.inside.places.items) c.args.caller = taker-port c.self.inside.places.items c.swap.new.self.items c.self.inside.room c.args.port c.args.caller c.self.invariant c.swap.ensures.by_index c.requires.other c.requires.port c.requires.caller c.index_mut-taker.result.now c.index_mut-taker.ensures.value in
    let ports = ports-taken c.self.inside.places.items c.swap.new.self.items c.self.inside.room c.args.port c.args.caller c.self.invariant c.swap.ensures.by_index c.requires.other c.requires.port c.requires.caller c.take_over.new.self c.join.new.self _ _ (ap (λ (x : PlaceState). x.port) c.take_over.ensures) (ap (λ (x : PlaceState). x.port) c.join.ensures) in
    rw (← c.self.view_is, ← was) (ap (λ (ports : List Port). record { ports = ports; room = c.self.inside.room }) ports)
