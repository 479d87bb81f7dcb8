use Rattle.std.proofs.Common.{◌≡◌, ◌≤◌, drop, length, map}
use Rattle.ppp_bundle.specs.Bundles.{mask}
use Rattle.ppp_station.specs.View.{is_idle_link}
use Rattle.ppp_station.proofs.view.idle_links.Given as goal

abbrev pub invariant-links : goal.invariant-links
invariant-links l = record {
  within : l.link ≤ length l.trunk.links;
  most : length l.trunk.links ≤ 16;
  left : l.links ≡ mask (map is_idle_link (drop l.link l.trunk.links));
}

abbrev pub decreases-links : goal.decreases-links
decreases-links l = l.link
