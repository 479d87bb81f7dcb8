use Rattle.std.proofs.Common.{add-one, arith, ◌∙◌}
use Rattle.ppp_trunk.proofs.StepsLemmas.{turns-next, turns-now, works-next}
use Rattle.ppp_trunk.proofs.steps.work.Goals as goal

pub work_one-requires-clause-turn : goal.work_one-requires-clause-turn
work_one-requires-clause-turn c = turns-now c.args.number c.loop-i.bundles c.args.told.now c.loop-i.i _ c.at.ensures.entry c.loop-i.invariant.turn

pub loop-i-preserved : goal.loop-i-preserved
loop-i-preserved c = record {
  links = c.work_one.ensures.links ∙ c.loop-i.invariant.links;
  limits = c.work_one.ensures.limits ∙ c.loop-i.invariant.limits;
  turn = rw add-one (turns-next c.args.number c.args.word c.args.told.now c.loop-i.i _ _ _ c.at.ensures.entry c.work_one.ensures.done c.loop-i.invariant.turn);
  used = c.work_one.ensures.used ∙ c.loop-i.invariant.used;
  few = omega (arith, c.work_one.ensures.few, c.loop-i.invariant.few);
  octets = omega (arith, c.work_one.ensures.octets, c.loop-i.invariant.octets);
  left = rw add-one (works-next c.args.number c.args.word c.args.told.now c.loop-i.i _ _ _ _ c.at.ensures.entry c.work_one.ensures.done c.loop-i.invariant.left);
}
