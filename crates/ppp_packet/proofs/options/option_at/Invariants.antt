use Rattle.std.proofs.Common.{◌≡◌, ◌<◌, length}
use Rattle.std.specs.Prelude.{slice_get}
use Rattle.ppp_packet.specs.Options.{HoldsOptions, list_of}
use Rattle.ppp_packet.proofs.options.option_at.Given as goal

abbrev pub invariant-options : goal.invariant-options
invariant-options l = record {
  holds : HoldsOptions l.left;
  within : l.ahead < length (list_of l.left);
  same : slice_get (list_of l.left) l.ahead ≡ slice_get (list_of l.fn.octets) l.fn.i;
}

abbrev pub decreases-options : goal.decreases-options
decreases-options l = length l.left
