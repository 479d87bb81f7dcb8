use Rattle.std.proofs.Common.{◌≡◌, ◌<◌, ℕ, length, Some, slice_get}
use Rattle.ppp_bundle.specs.Bundles.{control_of}
use Rattle.ppp_bundle.specs.declared.limits.TheConstants.{MOST_BUNDLES}
use Rattle.ppp_station.proofs.waits.controls_of.Given as goal

abbrev pub invariant-loop-i : goal.invariant-loop-i
invariant-loop-i l = record {
  count : length l.controls ≡ MOST_BUNDLES;
  done : (j : ℕ) → j < l.i → slice_get l.controls j ≡ Some (control_of j l.bundles);
}
