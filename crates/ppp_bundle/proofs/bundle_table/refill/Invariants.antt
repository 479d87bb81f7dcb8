use Rattle.std.proofs.Common.{◌≡◌, ◌≤◌}
use Rattle.std.specs.Prelude.{None, replicate, vec_capacity}
use Rattle.ppp_bundle.proofs.bundle_table.refill.Given as goal

abbrev pub invariant-loop : goal.invariant-loop
invariant-loop g l = record {
  items : l.places.items ≡ replicate l.counter None;
  room : l.count ≤ vec_capacity l.places;
}
