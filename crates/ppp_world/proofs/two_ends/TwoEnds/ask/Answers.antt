use Rattle.std.proofs.Common.{arith}
use Rattle.ppp_script.specs.declared.end.End.TheVariants.{A, B}
use Rattle.ppp_world.proofs.CountedLemmas.{asks-stays, counts-other, counts-own, stays-by}
use Rattle.ppp_world.proofs.MovedLemmas.{moved-asks}
use Rattle.ppp_world.proofs.two_ends.TwoEnds.ask.Goals as goal

pub returns-in-A-clause-done : goal.returns-in-A-clause-done
returns-in-A-clause-done g c = rw (c.in-A.is, ← c.self.view_is) (moved-asks c.ask.result _ c.args.number A c.args.link c.args.request _ _ _ (rw c.in-A.is at c.word_at-word.ensures) c.ask.ensures.done c.ask.ensures.short)

pub returns-in-A-clause-counts : goal.returns-in-A-clause-counts
returns-in-A-clause-counts g c = rw (← c.self.view_is) (counts-own c.ask.result 1024 _ c.ask.new.self.party c.ask.new.other.party (omega arith) (stays-by c.ask.result _ _ _ _ c.ask.ensures.done (asks-stays _ _ _ _)) c.ask.ensures.counted)

pub returns-in-B-clause-done : goal.returns-in-B-clause-done
returns-in-B-clause-done g c = rw (c.in-B.is, ← c.self.view_is) (moved-asks c.ask-in-B.result _ c.args.number B c.args.link c.args.request _ _ _ (rw c.in-B.is at c.word_at-word.ensures) c.ask-in-B.ensures.done c.ask-in-B.ensures.short)

pub returns-in-B-clause-counts : goal.returns-in-B-clause-counts
returns-in-B-clause-counts g c = rw (← c.self.view_is) (counts-other c.ask-in-B.result 1024 _ c.ask-in-B.new.self.party c.ask-in-B.new.other.party (omega arith) (stays-by c.ask-in-B.result _ _ _ _ c.ask-in-B.ensures.done (asks-stays _ _ _ _)) c.ask-in-B.ensures.counted)
