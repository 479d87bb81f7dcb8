use Rattle.std.proofs.Common.{◌<◌, ◌∙◌, sym, arith}
use Rattle.ppp_wires.proofs.PortsLemmas.{caller-found, position-map}
use Rattle.ppp_wires.specs.Place.{PlaceState}
use Rattle.ppp_wires.specs.Port.{calls_as}
use Rattle.ppp_wires.proofs.ports.Ports.caller.Goals as goal

pub returns-in_err-place : goal.returns-in_err-place
returns-in_err-place c =
    let none = rw c.deref.ensures.value at (sym c.caller_among.ensures ∙ c.in_err-place.was) in
    rw c.from_residual.ensures (record {
      value = rw (← c.self.view_is) (sym (position-map (λ (p : PlaceState). p.port) (calls_as c.args.name.now) c.self.inside.places.items ∙ none));
      within = tt;
      connected = tt;
    })

pub returns : goal.returns
returns c =
    let some = rw c.deref.ensures.value at (sym c.caller_among.ensures ∙ c.in_ok-place.was) in
    let found = caller-found c.self.inside.places.items c.args.name.now c.in_ok-place.place some in
    let below : c.in_ok-place.place < 33 = rw c.self.invariant.count at found.0 in
    rw (← c.self.view_is) (record { value = found.1; within = omega arith; connected = found.2 })
