use Rattle.std.proofs.Common.{add-one, arith, ◌∙◌}
use Rattle.ppp_trunk.proofs.StepsLemmas.{plain-next}
use Rattle.ppp_trunk.proofs.steps.push_all.Goals as goal

pub loop-i-preserved : goal.loop-i-preserved
loop-i-preserved c = record {
  used = c.push_one.ensures.used ∙ c.loop-i.invariant.used;
  few = omega (arith, c.push_one.ensures.few, c.loop-i.invariant.few);
  octets = omega (arith, c.push_one.ensures.octets, c.loop-i.invariant.octets);
  left = rw add-one (plain-next c.args.number c.args.told.now c.loop-i.i _ c.loop-i.out.entries _ _ c.at.ensures.entry c.push_one.ensures.entries c.loop-i.invariant.left);
}
