use Rattle.std.proofs.Common.{◌≡◌, drop}
use Rattle.ppp_frame.specs.Fcs.{fcs_run}
use Rattle.ppp_frame.proofs.check_sequence.after_each.Given as goal

abbrev pub invariant-loop-octet : goal.invariant-loop-octet
invariant-loop-octet l = fcs_run l.running (drop l.octet-index l.octets) ≡ fcs_run l.fcs l.octets
