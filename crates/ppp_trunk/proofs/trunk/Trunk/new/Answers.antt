use Rattle.std.proofs.Common.{◌≤◌, ap, sym, subst, ◌∙◌}
use Rattle.ppp_bundle.specs.Bundles.{bundles_begun}
use Rattle.ppp_trunk.specs.Trunk.{limits_of}
use Rattle.ppp_trunk.proofs.TrunkPhaseLemmas.{begun-trunk}
use Rattle.ppp_trunk.proofs.trunk.Trunk.new.Goals as goal

pub invariant_of-result : goal.invariant_of-result
invariant_of-result c =
    begun-trunk _ (record {
      some = subst (λ n. 1 ≤ n) (sym c.in_ok-links.ensures.count) c.args.config.now.links_within.0;
      most = subst (λ n. n ≤ 16) (sym c.in_ok-links.ensures.count) c.args.config.now.links_within.1;
      ready = c.in_ok-links.ensures.ready;
      bundles = c.in_ok-bundles.ensures ∙ ap bundles_begun (c.limits_of.ensures ∙ ap limits_of (sym c.in_ok-links.ensures.count));
    })
