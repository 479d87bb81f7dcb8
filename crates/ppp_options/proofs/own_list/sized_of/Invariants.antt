use Rattle.std.proofs.Common.{◌≡◌, length}
use Rattle.ppp_options.specs.Number.{body_of}
use Rattle.ppp_options.proofs.own_list.sized_of.Given as goal

abbrev pub invariant-options : goal.invariant-options
invariant-options l = body_of l.kind l.size l.list ≡ body_of l.kind l.size l.left

abbrev pub decreases-options : goal.decreases-options
decreases-options l = length l.left
