use Rattle.ppp_frame.proofs.FcsLemmas.{four_steps}
use Rattle.ppp_frame.proofs.check_sequence.after_four.Goals as goal

pub returns : goal.returns
returns c = let all = four_steps c.args.fcs c.args.a c.args.b c.args.c c.args.d in cc
