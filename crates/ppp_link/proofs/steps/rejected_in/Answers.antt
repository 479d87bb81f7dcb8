use Rattle.std.proofs.Common.{add-one, sym, ◌∙◌}
use Rattle.ppp_link.proofs.StepsLemmas.{rejected-next, rejected-found}
use Rattle.ppp_link.proofs.steps.rejected_in.Goals as goal

pub loop-i-preserved : goal.loop-i-preserved
loop-i-preserved c = record {
  left = rw add-one (rejected-next c.args.outbox.now c.loop-i.i _ _ c.at.ensures.entry (sym c.rejected_by.ensures ∙ c.in_default.is) c.loop-i.invariant.left);
}

pub returns-in-Some : goal.returns-in-Some
returns-in-Some c = rejected-found c.args.outbox.now c.loop-i.i _ c.in-Some.number _ c.at.ensures.entry (sym c.rejected_by.ensures ∙ c.in-Some.is) c.loop-i.invariant.left
