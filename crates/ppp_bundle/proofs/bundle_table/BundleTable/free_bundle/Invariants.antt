use Rattle.std.proofs.Common.{◌≡◌, ◌-◌}
use Rattle.ppp_bundle.specs.Joining.{free_bundle, free_from}
use Rattle.ppp_bundle.proofs.bundle_table.BundleTable.free_bundle.Given as goal

abbrev pub invariant-loop-bundle : goal.invariant-loop-bundle
invariant-loop-bundle l = free_from (l.self.limits.bundles - l.bundle) l.bundle l.self ≡ free_bundle l.self
