use Rattle.std.proofs.Common.{ap, sym, not, ◌∙◌, ◌<◌, subst}
use Rattle.ppp_bundle.specs.Bundles.{Bundles}
use Rattle.ppp_bundle.proofs.TableLemmas.{free-here, free-next, linked-read}
use Rattle.ppp_bundle.proofs.bundle_table.BundleTable.free_bundle.Goals as goal

pub returns-then-is_none : goal.returns-then-is_none
returns-then-is_none c =
    sym (free-here c.args.self.now.limits.bundles c.loop-bundle.bundle c.args.self.now
    (subst (λ (t : Bundles). c.loop-bundle.bundle < t.limits.bundles) c.self.view_is c.loop-bundle-test.true)
    (linked-read c.self.inside.controls.items _ c.args.self.now c.loop-bundle.bundle c.from.result c.index.result.now c.is_none.result c.self.invariant.controls c.self.view_is c.loop-bundle-test.true c.from.ensures c.index.ensures c.is_none.ensures ∙ ap not c.if-is_none.true))
    ∙ c.loop-bundle.invariant

pub loop-bundle-preserved : goal.loop-bundle-preserved
loop-bundle-preserved c =
    sym (free-next c.args.self.now.limits.bundles c.loop-bundle.bundle c.args.self.now
    (subst (λ (t : Bundles). c.loop-bundle.bundle < t.limits.bundles) c.self.view_is c.loop-bundle-test.true)
    (linked-read c.self.inside.controls.items _ c.args.self.now c.loop-bundle.bundle c.from.result c.index.result.now c.is_none.result c.self.invariant.controls c.self.view_is c.loop-bundle-test.true c.from.ensures c.index.ensures c.is_none.ensures ∙ ap not c.if-is_none.false))
    ∙ c.loop-bundle.invariant
