use Rattle.ppp_frame.proofs.FcsLemmas.{eight_steps}
use Rattle.ppp_frame.proofs.check_sequence.after_eight.Goals as goal

pub returns : goal.returns
returns c = let all = eight_steps c.args.fcs c.args.a c.args.b c.args.c c.args.d c.args.e c.args.f c.args.g c.args.h in cc
