use Rattle.std.proofs.Common.{◌≡◌, ◌+◌, ◌≤◌, ◌++◌, length}
use Rattle.ppp_packet.specs.Options.{written}
use Rattle.ppp_options.specs.Rules.{without}
use Rattle.ppp_options.proofs.own_list.list_after_reject.Given as goal

abbrev pub invariant-options : goal.invariant-options
invariant-options l = record {
  left_over : without l.last l.reject ≡ l.list ++ without l.left l.reject;
  room : length (written l.list) + length (written l.left) ≤ 128;
}

abbrev pub decreases-options : goal.decreases-options
decreases-options l = length l.left
