use Rattle.std.proofs.Common.{arith, add-one}
use Rattle.ppp_link.proofs.StepsLemmas.{told-next}
use Rattle.ppp_link.proofs.steps.tell_all.Goals as goal

pub loop-i-preserved : goal.loop-i-preserved
loop-i-preserved c = record {
  few = omega (arith, c.tell_entry.ensures.few, c.loop-i.invariant.few);
  left = rw add-one (told-next _ _ c.args.outbox.now c.loop-i.i _ c.loop-i.out _ _ c.at.ensures.entry c.tell_entry.ensures.out c.loop-i.invariant.left);
}
