use Rattle.std.proofs.Common.{refl, arith}
use Rattle.ppp_frame.specs.Fcs.{halved, shifted, shifted_by}
use Rattle.ppp_frame.proofs.FcsLemmas.{get_or-table}
use Rattle.ppp_frame.proofs.check_sequence.shifted_8.Goals as goal

pub returns : goal.returns
unfolding shifted halved
returns c = get_or-table (shifted_by 8) _ c.args.octet 0 refl (omega arith)
