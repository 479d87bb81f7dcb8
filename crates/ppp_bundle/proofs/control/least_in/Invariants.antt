use Rattle.std.proofs.Common.{◌≡◌, ◌+◌, ◌≤◌, drop, length, map}
use Rattle.ppp_bundle.specs.BundleTable.{places_seen}
use Rattle.ppp_bundle.specs.Bundles.{key_in, least_from}
use Rattle.ppp_bundle.proofs.control.least_in.Given as goal

abbrev pub invariant-places : goal.invariant-places
invariant-places l = record {
  within : l.i ≤ length l.places;
  left : l.least ≡ least_from l.senior (l.i + 1) (map (key_in l.bundle) (places_seen (drop l.i l.places)));
}

abbrev pub decreases-places : goal.decreases-places
decreases-places l = l.i
