use Rattle.std.proofs.Common.{ap, sym, arith, ◌∙◌, subst}
use Rattle.std.specs.Prelude.{None, replicate}
use Rattle.ppp_bundle.specs.BundleTable.{AreControls, IsBundles, peers_seen}
use Rattle.ppp_bundle.proofs.BundlesLemmas.{sound-begun}
use Rattle.ppp_bundle.proofs.TableLemmas.{begun-controls, begun-seen}
use Rattle.ppp_bundle.proofs.bundle_table.BundleTable.new.Goals as goal

pub returns : goal.returns
returns c =
    begun-seen c.args.limits c.refill.new.places.items (peers_seen c.in-Ok-Ok-Ok.peers.items) (c.refill.ensures ∙ ap (λ n. replicate n None) c.from-4.ensures)
    (ap peers_seen c.in-Ok-Ok-Ok.ensures''.items)

pub invariant_of-result : goal.invariant_of-result
invariant_of-result c = record {
  sound = subst IsBundles (sym (returns c)) (sound-begun c.args.limits c.requires);
  controls = subst (AreControls c.refill-2.new.places.items) (sym (returns c)) (begun-controls c.args.limits c.refill-2.new.places.items (c.refill-2.ensures ∙ ap (λ n. replicate n None) c.from-5.ensures));
  room = omega (arith, c.in-Ok-Ok-Ok.ensures''.capacity, c.from-3.ensures);
}
