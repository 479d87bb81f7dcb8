use Rattle.std.proofs.Common.{sym}
use Rattle.ppp_frame.proofs.StandingLemmas.{fresh_start}
use Rattle.ppp_frame.proofs.deframer.Deframer.new.Goals as goal

pub returns-clause-stands : goal.returns-clause-stands
returns-clause-stands c = sym (fresh_start c.args.limit)
