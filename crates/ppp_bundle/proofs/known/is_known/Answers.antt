use Rattle.std.proofs.Common.{ap, ◌∙◌}
use Rattle.std.specs.Prelude.{is_some}
use Rattle.ppp_lcp.specs.LcpGrant.{disc_seen}
use Rattle.ppp_bundle.specs.BundleTable.{peers_seen}
use Rattle.ppp_bundle.proofs.PeerLemmas.{position-known}
use Rattle.ppp_bundle.proofs.known.is_known.Goals as goal

pub returns : goal.returns
returns c = c.is_some.ensures ∙ (ap is_some c.place_of.ensures.value ∙ position-known (disc_seen c.args.disc.now) 0 (peers_seen c.args.peers.now))
