use Rattle.std.proofs.Common.{ap, sym, ◌∙◌}
use Rattle.ppp_lcp.specs.LcpGrant.{disc_seen}
use Rattle.ppp_bundle.specs.BundleTable.{peers_seen}
use Rattle.ppp_bundle.specs.Bundles.{numbers_for, numbers_of}
use Rattle.ppp_bundle.proofs.TableLemmas.{first-read, peer-read}
use Rattle.ppp_bundle.proofs.bundle_table.BundleTable.numbers.Goals as goal

pub returns-in-Some : goal.returns-in-Some
returns-in-Some c =
    c.numbers_for.ensures
    ∙ (ap (λ ks. numbers_for (disc_seen c.in-Some.key.peer.disc) (peers_seen ks)) c.as_slice-in-Some.ensures.value
    ∙ (ap (λ d. numbers_for d (peers_seen c.self.inside.peers.items))
    (sym (peer-read c.self.inside.limits c.self.inside.places.items c.as_slice.result.now (peers_seen c.self.inside.peers.items) c.args.bundle c.first_key.result c.in-Some.key c.as_slice.ensures.value c.first_key.ensures c.in-Some.is))
    ∙ ap (numbers_of c.args.bundle) c.self.view_is))

pub returns-in-None : goal.returns-in-None
returns-in-None c =
    absurd (first-read c.self.inside.limits c.self.inside.places.items c.as_slice.result.now (peers_seen c.self.inside.peers.items) c.args.self.now c.args.bundle c.first_key.result c.as_slice.ensures.value c.first_key.ensures c.in-None.is c.self.view_is c.requires.linked)
