use Rattle.std.proofs.Common.{arith, subst, sym}
use Rattle.std.proofs.lemmas.Grind.{common_steps}
use Rattle.ppp_bundle.specs.BundleTable.{IsBundles}
use Rattle.ppp_bundle.proofs.BundlesLemmas.{bundle-within}
use Rattle.ppp_bundle.proofs.bundle_table.BundleTable.bundle_of.Goals as goal

pub returns-in-Some-clause-value : goal.returns-in-Some-clause-value
returns-in-Some-clause-value c = grind (arith, common_steps)

pub returns-in-Some-clause-within : goal.returns-in-Some-clause-within
returns-in-Some-clause-within c =
    bundle-within c.args.link c.in-Some.joined.bundle c.args.self.now (subst IsBundles c.self.view_is c.self.invariant.sound) (sym (returns-in-Some-clause-value c))
