use Rattle.std.proofs.Common.{◌≡◌, length}
use Rattle.ppp_packet.specs.Options.{find_kind}
use Rattle.ppp_packet.proofs.opt_list.OptList.find.Given as goal

abbrev pub invariant-options : goal.invariant-options
invariant-options l = find_kind l.kind l.left ≡ find_kind l.kind l.self

abbrev pub decreases-options : goal.decreases-options
decreases-options l = length l.left
