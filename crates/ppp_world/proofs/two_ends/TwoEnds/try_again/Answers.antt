use Rattle.std.proofs.Common.{arith}
use Rattle.ppp_script.specs.declared.end.End.TheVariants.{A, B}
use Rattle.ppp_world.proofs.CountedLemmas.{counts-other, counts-own, stays-by, tries-stays}
use Rattle.ppp_world.proofs.MovedLemmas.{moved-tries}
use Rattle.ppp_world.proofs.two_ends.TwoEnds.try_again.Goals as goal

pub returns-in-A-clause-done : goal.returns-in-A-clause-done
returns-in-A-clause-done g c = rw (c.in-A.is, ← c.self.view_is) (moved-tries c.try_again.result _ c.args.number A c.args.link _ _ _ (rw c.in-A.is at c.word_at-word.ensures) c.try_again.ensures.done c.try_again.ensures.short)

pub returns-in-A-clause-counts : goal.returns-in-A-clause-counts
returns-in-A-clause-counts g c = rw (← c.self.view_is) (counts-own c.try_again.result 1024 _ c.try_again.new.self.party c.try_again.new.other.party (omega arith) (stays-by c.try_again.result _ _ _ _ c.try_again.ensures.done (tries-stays _ _ _)) c.try_again.ensures.counted)

pub returns-in-B-clause-done : goal.returns-in-B-clause-done
returns-in-B-clause-done g c = rw (c.in-B.is, ← c.self.view_is) (moved-tries c.try_again-in-B.result _ c.args.number B c.args.link _ _ _ (rw c.in-B.is at c.word_at-word.ensures) c.try_again-in-B.ensures.done c.try_again-in-B.ensures.short)

pub returns-in-B-clause-counts : goal.returns-in-B-clause-counts
returns-in-B-clause-counts g c = rw (← c.self.view_is) (counts-other c.try_again-in-B.result 1024 _ c.try_again-in-B.new.self.party c.try_again-in-B.new.other.party (omega arith) (stays-by c.try_again-in-B.result _ _ _ _ c.try_again-in-B.ensures.done (tries-stays _ _ _)) c.try_again-in-B.ensures.counted)
