use Rattle.std.proofs.Common.{◌≡◌, ◌-◌}
use Rattle.ppp_bundle.specs.Bundles.{Bundles}
use Rattle.ppp_station.specs.Waits.{AreControlsOf, settled, settled_from}
use Rattle.ppp_station.proofs.waits.settle.Given as goal

abbrev pub invariant-loop-i : goal.invariant-loop-i
invariant-loop-i g l = record {
  left : (t : Bundles) → AreControlsOf t l.before → settled_from (8 - l.i) l.i t l.trunk l.bap.requests ≡ settled t l.trunk l.initial.bap.requests;
  policy : l.bap.policy ≡ l.initial.bap.policy;
}
