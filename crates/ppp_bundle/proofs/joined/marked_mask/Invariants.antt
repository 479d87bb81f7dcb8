use Rattle.std.proofs.Common.{◌≡◌, ◌≤◌, drop, length}
use Rattle.ppp_bundle.specs.BundleTable.{places_seen}
use Rattle.ppp_bundle.specs.Bundles.{marked_mask}
use Rattle.ppp_bundle.proofs.joined.marked_mask.Given as goal

abbrev pub invariant-places : goal.invariant-places
invariant-places l = record {
  within : l.i ≤ length l.places;
  left : l.mask ≡ marked_mask l.bundle (places_seen (drop l.i l.places));
}

abbrev pub decreases-places : goal.decreases-places
decreases-places l = l.i
