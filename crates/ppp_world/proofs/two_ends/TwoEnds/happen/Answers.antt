use Rattle.std.proofs.Common.{arith}
use Rattle.ppp_script.specs.declared.end.End.TheVariants.{A, B}
use Rattle.ppp_world.proofs.CountedLemmas.{counts-other, counts-own, happens-stays, stays-by}
use Rattle.ppp_world.proofs.MovedLemmas.{moved-happens}
use Rattle.ppp_world.proofs.two_ends.TwoEnds.happen.Goals as goal

pub returns-in-A-clause-done : goal.returns-in-A-clause-done
returns-in-A-clause-done g c = rw (c.in-A.is, ← c.self.view_is) (moved-happens c.happen.result _ c.args.number A c.args.link c.args.what _ _ _ (rw c.in-A.is at c.word_at-word.ensures) c.happen.ensures.done c.happen.ensures.short)

pub returns-in-A-clause-counts : goal.returns-in-A-clause-counts
returns-in-A-clause-counts g c = rw (← c.self.view_is) (counts-own c.happen.result 1024 _ c.happen.new.self.party c.happen.new.other.party (omega arith) (stays-by c.happen.result _ _ _ _ c.happen.ensures.done (happens-stays _ _ _ _)) c.happen.ensures.counted)

pub returns-in-B-clause-done : goal.returns-in-B-clause-done
returns-in-B-clause-done g c = rw (c.in-B.is, ← c.self.view_is) (moved-happens c.happen-in-B.result _ c.args.number B c.args.link c.args.what _ _ _ (rw c.in-B.is at c.word_at-word.ensures) c.happen-in-B.ensures.done c.happen-in-B.ensures.short)

pub returns-in-B-clause-counts : goal.returns-in-B-clause-counts
returns-in-B-clause-counts g c = rw (← c.self.view_is) (counts-other c.happen-in-B.result 1024 _ c.happen-in-B.new.self.party c.happen-in-B.new.other.party (omega arith) (stays-by c.happen-in-B.result _ _ _ _ c.happen-in-B.ensures.done (happens-stays _ _ _ _)) c.happen-in-B.ensures.counted)
