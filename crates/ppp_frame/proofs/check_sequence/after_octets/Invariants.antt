use Rattle.std.proofs.Common.{◌≡◌, length}
use Rattle.ppp_frame.specs.Fcs.{fcs_run}
use Rattle.ppp_frame.proofs.check_sequence.after_octets.Given as goal

abbrev pub invariant-eights : goal.invariant-eights
invariant-eights l = fcs_run l.running l.rest ≡ fcs_run l.fn.fcs l.fn.octets

abbrev pub decreases-eights : goal.decreases-eights
decreases-eights l = length l.rest
