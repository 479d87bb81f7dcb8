use Rattle.std.proofs.Common.{◌≡◌, ap, sym, arith, ◌∙◌, subst}
use Rattle.std.specs.Prelude.{None, replicate}
use Rattle.ppp_bundle.specs.BundleTable.{AreControls, IsBundles, peers_seen}
use Rattle.ppp_bundle.specs.Bundles.{Bundles, bundles_begun}
use Rattle.ppp_bundle.proofs.BundlesLemmas.{sound-begun}
use Rattle.ppp_bundle.proofs.TableLemmas.{begun-controls, begun-seen, table_of}
use Rattle.ppp_bundle.proofs.bundle_table.BundleTable.reset.Goals as goal

seen : (c : goal.After-clear) → table_of c.self.inside.limits c.refill.new.places.items (peers_seen c.clear.new.self.items) ≡ bundles_begun c.self.inside.limits
seen c =
    begun-seen c.self.inside.limits c.refill.new.places.items (peers_seen c.clear.new.self.items) (c.refill.ensures ∙ ap (λ n. replicate n None) c.from.ensures)
    (ap peers_seen c.clear.ensures.items)

pub returns : goal.returns
returns c = seen c ∙ ap (λ (t : Bundles). bundles_begun t.limits) c.self.view_is

pub invariant_of-self : goal.invariant_of-self
invariant_of-self c = record {
  sound = subst IsBundles (sym (seen c)) (sound-begun c.self.inside.limits c.self.invariant.sound.limits);
  controls = subst (AreControls c.refill-2.new.places.items) (sym (seen c)) (begun-controls c.self.inside.limits c.refill-2.new.places.items (c.refill-2.ensures ∙ ap (λ n. replicate n None) c.from-2.ensures));
  room = omega (arith, c.clear.ensures.capacity, c.self.invariant.room);
}
