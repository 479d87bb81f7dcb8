use Rattle.std.proofs.Common.{◌≡◌, ◌≤◌, replicate}
use Rattle.std.specs.Prelude.{vec_capacity}
use Rattle.ppp_wires.specs.Port.{Free}
use Rattle.ppp_wires.specs.Place.{PlaceState}
use Rattle.ppp_wires.proofs.ports.Ports.new.Given as goal

abbrev pub invariant-places : goal.invariant-places
invariant-places l = record {
  items : l.places.items ≡ replicate {A = PlaceState} l.counter (record { room = l.room; port = Free });
  reserved : 33 ≤ vec_capacity l.places;
}
