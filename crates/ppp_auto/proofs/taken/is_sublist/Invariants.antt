use Rattle.std.proofs.Common.{◌≡◌, length}
use Rattle.ppp_auto.specs.Reply.{is_sublist}
use Rattle.ppp_auto.proofs.taken.is_sublist.Given as goal

abbrev pub invariant-options : goal.invariant-options
invariant-options l = is_sublist l.part l.list ≡ is_sublist l.wanted l.left

abbrev pub decreases-options : goal.decreases-options
decreases-options l = length l.left
