use Rattle.std.proofs.Common.{sym, ◌∙◌}
use Rattle.ppp_lcp.specs.LcpGrant.{disc_seen}
use Rattle.ppp_bundle.specs.BundleTable.{peers_seen}
use Rattle.ppp_bundle.proofs.PeerLemmas.{numbers-kept, placed-nowhere}
use Rattle.ppp_bundle.proofs.known.numbers_for.Goals as goal

pub returns-in-Some : goal.returns-in-Some
returns-in-Some c = numbers-kept (disc_seen c.args.disc.now) c.args.peers.now c.in-Some.i c.index-peers-i.result (sym c.place_of.ensures.value ∙ c.in-Some.is)

pub returns-in-None : goal.returns-in-None
returns-in-None c = sym (placed-nowhere (disc_seen c.args.disc.now) (peers_seen c.args.peers.now) 0 (sym c.place_of.ensures.value ∙ c.in-None.is)).kept
