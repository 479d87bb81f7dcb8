use Rattle.std.proofs.Common.{◌≡◌, drop}
use Rattle.std.specs.List.{find}
use Rattle.ppp_bap.specs.BundleView.{is_joined_as}
use Rattle.ppp_bap.specs.LinkSet.{link_numbers}
use Rattle.ppp_bap.proofs.bundle_view.BundleView.link_numbered.Given as goal

abbrev pub invariant-loop-link : goal.invariant-loop-link
invariant-loop-link l = find (is_joined_as l.number l.self) (drop l.link-index link_numbers) ≡ find (is_joined_as l.number l.self) link_numbers
