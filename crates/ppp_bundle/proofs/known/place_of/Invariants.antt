use Rattle.std.proofs.Common.{◌≡◌, drop}
use Rattle.std.specs.List.{position_from}
use Rattle.ppp_lcp.specs.LcpGrant.{disc_seen}
use Rattle.ppp_bundle.specs.BundleTable.{peers_seen}
use Rattle.ppp_bundle.specs.Bundles.{is_of}
use Rattle.ppp_bundle.proofs.known.place_of.Given as goal

abbrev pub invariant-loop-i : goal.invariant-loop-i
invariant-loop-i l = position_from (is_of (disc_seen l.disc)) l.i (peers_seen (drop l.i l.peers)) ≡ position_from (is_of (disc_seen l.disc)) 0 (peers_seen l.peers)
