use Rattle.std.proofs.Common.{◌≡◌, drop, map}
use Rattle.ppp_lcp.specs.LcpGrant.{disc_seen}
use Rattle.ppp_bundle.specs.BundleTable.{places_seen}
use Rattle.ppp_bundle.specs.Bundles.{first_some}
use Rattle.ppp_bundle.specs.Joining.{with_peer}
use Rattle.ppp_bundle.proofs.joined.member_with.Given as goal

abbrev pub invariant-loop-i : goal.invariant-loop-i
invariant-loop-i l = first_some (map (with_peer (disc_seen l.disc)) (places_seen (drop l.i l.places))) ≡ first_some (map (with_peer (disc_seen l.disc)) (places_seen l.places))
