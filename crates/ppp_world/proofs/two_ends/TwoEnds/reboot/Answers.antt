use Rattle.std.proofs.Common.{arith}
use Rattle.ppp_script.specs.declared.end.End.TheVariants.{A, B}
use Rattle.ppp_world.proofs.CountedLemmas.{counts-anew, counts-anew-other}
use Rattle.ppp_world.proofs.MovedLemmas.{moved-reboots}
use Rattle.ppp_world.proofs.two_ends.TwoEnds.reboot.Goals as goal

pub returns-in-A-clause-done : goal.returns-in-A-clause-done
returns-in-A-clause-done g c = rw (c.in-A.is, ← c.self.view_is) (moved-reboots c.reboot.result _ c.args.number A _ _ _ c.word_at-word.ensures c.reboot.ensures.done c.reboot.ensures.short)

pub returns-in-A-clause-counts : goal.returns-in-A-clause-counts
returns-in-A-clause-counts g c = rw (← c.self.view_is) (counts-anew c.reboot.result 16384 _ c.reboot.new.self.party c.reboot.new.other.party (omega arith) c.reboot.ensures.counted c.reboot.ensures.others)

pub returns-in-B-clause-done : goal.returns-in-B-clause-done
returns-in-B-clause-done g c = rw (c.in-B.is, ← c.self.view_is) (moved-reboots c.reboot-in-B.result _ c.args.number B _ _ _ c.word_at-word-in-B.ensures c.reboot-in-B.ensures.done c.reboot-in-B.ensures.short)

pub returns-in-B-clause-counts : goal.returns-in-B-clause-counts
returns-in-B-clause-counts g c = rw (← c.self.view_is) (counts-anew-other c.reboot-in-B.result 16384 _ c.reboot-in-B.new.self.party c.reboot-in-B.new.other.party (omega arith) c.reboot-in-B.ensures.counted c.reboot-in-B.ensures.others)
