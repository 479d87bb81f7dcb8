use Rattle.std.proofs.Common.{◌≡◌, ◌+◌, length}
use Rattle.ppp_packet.specs.Options.{HoldsOptions, list_of}
use Rattle.ppp_packet.proofs.options.count_in.Given as goal

abbrev pub invariant-options : goal.invariant-options
invariant-options l = record {
  holds : HoldsOptions l.left;
  all : HoldsOptions l.fn.octets;
  counted : l.count + length (list_of l.left) ≡ length (list_of l.fn.octets);
}

abbrev pub decreases-options : goal.decreases-options
decreases-options l = length l.left
