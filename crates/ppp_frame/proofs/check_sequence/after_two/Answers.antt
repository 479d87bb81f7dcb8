use Rattle.ppp_frame.proofs.FcsLemmas.{two_steps}
use Rattle.ppp_frame.proofs.check_sequence.after_two.Goals as goal

pub returns : goal.returns
returns c = let all = two_steps c.args.fcs c.args.a c.args.b in cc
