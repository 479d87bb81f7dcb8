use Rattle.std.proofs.Common.{◌≡◌, length}
use Rattle.ppp_packet.specs.Options.{find_kind}
use Rattle.ppp_options.proofs.own_list.first_of.Given as goal

abbrev pub invariant-options : goal.invariant-options
invariant-options l = find_kind l.kind l.list ≡ find_kind l.kind l.left

abbrev pub decreases-options : goal.decreases-options
decreases-options l = length l.left
