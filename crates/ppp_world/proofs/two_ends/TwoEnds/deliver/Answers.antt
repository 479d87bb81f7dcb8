use Rattle.std.proofs.Common.{arith}
use Rattle.ppp_world.proofs.CountedLemmas.{counts-other, counts-own, stays-delivered}
use Rattle.ppp_world.proofs.MovedLemmas.{moved-delivers-a, moved-delivers-b}
use Rattle.ppp_world.proofs.two_ends.TwoEnds.deliver.Goals as goal

pub returns-in-A-clause-done : goal.returns-in-A-clause-done
returns-in-A-clause-done g c = rw (c.in-A.is, ← c.self.view_is) (moved-delivers-a c.deliver.result _ c.args.number c.args.link _ _ _ (rw c.in-A.is at c.word_at-word.ensures) c.deliver.ensures.done)

pub returns-in-A-clause-counts : goal.returns-in-A-clause-counts
returns-in-A-clause-counts g c = rw (← c.self.view_is) (counts-own c.deliver.result 1024 _ c.deliver.new.self.party c.deliver.new.other.party (omega arith) (stays-delivered c.deliver.result _ _ _ _ _ _ c.deliver.ensures.done) c.deliver.ensures.counted)

pub returns-in-B-clause-done : goal.returns-in-B-clause-done
returns-in-B-clause-done g c = rw (c.in-B.is, ← c.self.view_is) (moved-delivers-b c.deliver-in-B.result _ c.args.number c.args.link _ _ _ (rw c.in-B.is at c.word_at-word.ensures) c.deliver-in-B.ensures.done)

pub returns-in-B-clause-counts : goal.returns-in-B-clause-counts
returns-in-B-clause-counts g c = rw (← c.self.view_is) (counts-other c.deliver-in-B.result 1024 _ c.deliver-in-B.new.self.party c.deliver-in-B.new.other.party (omega arith) (stays-delivered c.deliver-in-B.result _ _ _ _ _ _ c.deliver-in-B.ensures.done) c.deliver-in-B.ensures.counted)
