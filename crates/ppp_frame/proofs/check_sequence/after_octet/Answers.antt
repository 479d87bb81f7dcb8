use Rattle.std.proofs.Common.{sym, ap, ◌∙◌, bit_xor, ◌/◌}
use Rattle.ppp_frame.proofs.FcsLemmas.{step_is}
use Rattle.ppp_frame.proofs.check_sequence.after_octet.Goals as goal

pub returns : goal.returns
returns c = ap (bit_xor (c.args.fcs / 256)) c.shifted_1.ensures ∙ sym (step_is c.args.fcs c.args.octet)
