use Rattle.std.proofs.Common.{arith}
use Rattle.ppp_script.specs.declared.end.End.TheVariants.{A, B}
use Rattle.ppp_world.proofs.CountedLemmas.{counts-other, counts-own, stays-by, tells-stays}
use Rattle.ppp_world.proofs.MovedLemmas.{moved-tells}
use Rattle.ppp_world.proofs.two_ends.TwoEnds.tell.Goals as goal

pub returns-in-A-clause-done : goal.returns-in-A-clause-done
returns-in-A-clause-done g c = rw (c.in-A.is, ← c.self.view_is) (moved-tells c.tell.result _ c.args.number A c.args.link c.args.status _ _ _ (rw c.in-A.is at c.word_at-word.ensures) c.tell.ensures.done c.tell.ensures.short)

pub returns-in-A-clause-counts : goal.returns-in-A-clause-counts
returns-in-A-clause-counts g c = rw (← c.self.view_is) (counts-own c.tell.result 1024 _ c.tell.new.self.party c.tell.new.other.party (omega arith) (stays-by c.tell.result _ _ _ _ c.tell.ensures.done (tells-stays _ _ _ _)) c.tell.ensures.counted)

pub returns-in-B-clause-done : goal.returns-in-B-clause-done
returns-in-B-clause-done g c = rw (c.in-B.is, ← c.self.view_is) (moved-tells c.tell-in-B.result _ c.args.number B c.args.link c.args.status _ _ _ (rw c.in-B.is at c.word_at-word.ensures) c.tell-in-B.ensures.done c.tell-in-B.ensures.short)

pub returns-in-B-clause-counts : goal.returns-in-B-clause-counts
returns-in-B-clause-counts g c = rw (← c.self.view_is) (counts-other c.tell-in-B.result 1024 _ c.tell-in-B.new.self.party c.tell-in-B.new.other.party (omega arith) (stays-by c.tell-in-B.result _ _ _ _ c.tell-in-B.ensures.done (tells-stays _ _ _ _)) c.tell-in-B.ensures.counted)
