use Rattle.std.proofs.Common.{◌≡◌, length}
use Rattle.std.specs.Prelude.{is_some}
use Rattle.ppp_packet.specs.Options.{options_of}
use Rattle.ppp_packet.proofs.options.holds_options.Given as goal

abbrev pub invariant-options : goal.invariant-options
invariant-options l = is_some (options_of l.left) ≡ is_some (options_of l.fn.bytes)

abbrev pub decreases-options : goal.decreases-options
decreases-options l = length l.left
