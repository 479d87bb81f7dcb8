use Rattle.std.proofs.Common.{ap, sym, ◌∙◌}
use Rattle.std.specs.List.{position_from}
use Rattle.ppp_lcp.specs.LcpGrant.{disc_seen}
use Rattle.ppp_bundle.specs.BundleTable.{peers_seen}
use Rattle.ppp_bundle.specs.Bundles.{is_of}
use Rattle.ppp_bundle.proofs.PeerLemmas.{numbers-renewed, placed-nowhere}
use Rattle.ppp_bundle.proofs.known.renumber.Goals as goal

pub returns-in-Some-clause-value : goal.returns-in-Some-clause-value
returns-in-Some-clause-value c =
    numbers-renewed (disc_seen c.args.disc.now) c.args.numbers c.args.peers.now.items c.in-Some.i c.index_mut.result.now
    (ap (λ ps. position_from (is_of (disc_seen c.args.disc.now)) 0 (peers_seen ps)) (sym c.as_slice.ensures.value) ∙ (sym c.place_of.ensures.value ∙ c.in-Some.is))
    c.index_mut.ensures.value

pub returns-in_default-clause-value : goal.returns-in_default-clause-value
returns-in_default-clause-value c =
    sym ((placed-nowhere (disc_seen c.args.disc.now) (peers_seen c.args.peers.now.items) 0
    (ap (λ ps. position_from (is_of (disc_seen c.args.disc.now)) 0 (peers_seen ps)) (sym c.as_slice.ensures.value) ∙ (sym c.place_of.ensures.value ∙ c.in_default.is))).renews c.args.numbers)
