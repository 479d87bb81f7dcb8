use Rattle.std.proofs.Common.{add-one, arith, ◌∙◌}
use Rattle.std.proofs.lemmas.Option.{slice_get-get_or}
use Rattle.ppp_link.proofs.StepsLemmas.{each-next}
use Rattle.ppp_link.proofs.automata.Automata.each.Goals as goal

pub loop-i-preserved : goal.loop-i-preserved
loop-i-preserved c = record {
  tables = c.step.ensures.tables ∙ c.loop-i.invariant.tables;
  few = omega (arith, c.step.ensures.few, c.loop-i.invariant.few);
  left = rw add-one (each-next c.args.self.now.0 c.args.protos.now c.loop-i.i _ c.args.event c.args.word _ _ _
      (slice_get-get_or c.args.protos.now c.loop-i.i _ c.loop-i-test.true) (rw c.loop-i.invariant.tables at c.step.ensures.did) c.loop-i.invariant.left);
}
