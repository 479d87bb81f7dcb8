use Rattle.std.proofs.Common.{◌≡◌, ◌<◌, ℕ, length, Some, slice_get}
use Rattle.std.specs.Prelude.{IfSome}
use Rattle.ppp_bundle.specs.BundleTable.{IsLinkOf}
use Rattle.ppp_bundle.specs.Bundles.{control_of}
use Rattle.ppp_bundle.specs.declared.limits.TheConstants.{MOST_BUNDLES}
use Rattle.ppp_trunk.proofs.steps.controls_of.Given as goal

abbrev pub invariant-loop-i : goal.invariant-loop-i
invariant-loop-i l = record {
  count : length l.controls ≡ MOST_BUNDLES;
  done : (j : ℕ) → j < l.i → slice_get l.controls j ≡ Some (control_of j l.bundles);
  within : (j : ℕ) → j < l.i → IfSome (control_of j l.bundles) (IsLinkOf l.bundles);
}
