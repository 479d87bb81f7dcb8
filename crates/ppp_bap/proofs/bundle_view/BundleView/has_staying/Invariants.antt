use Rattle.std.proofs.Common.{◌≡◌, drop}
use Rattle.std.specs.List.{list_any}
use Rattle.ppp_bap.specs.BundleView.{stays_beside}
use Rattle.ppp_bap.specs.LinkSet.{link_numbers}
use Rattle.ppp_bap.proofs.bundle_view.BundleView.has_staying.Given as goal

abbrev pub invariant-loop-other : goal.invariant-loop-other
invariant-loop-other l = list_any (stays_beside l.link l.self) (drop l.other-index link_numbers) ≡ list_any (stays_beside l.link l.self) link_numbers
