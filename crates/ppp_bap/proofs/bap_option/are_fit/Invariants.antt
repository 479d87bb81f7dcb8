use Rattle.std.proofs.Common.{◌≡◌, length}
use Rattle.ppp_bap.specs.BapOption.{are_fit}
use Rattle.ppp_bap.proofs.bap_option.are_fit.Given as goal

abbrev pub invariant-options : goal.invariant-options
invariant-options l = are_fit l.left ≡ are_fit l.options

abbrev pub decreases-options : goal.decreases-options
decreases-options l = length l.left
