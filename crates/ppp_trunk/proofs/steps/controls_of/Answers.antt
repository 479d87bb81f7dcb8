use Rattle.std.proofs.Common.{arith, ap, length-set, subst, sym, ◌∙◌}
use Rattle.std.specs.Prelude.{IfSome}
use Rattle.ppp_bundle.specs.BundleTable.{IsLinkOf}
use Rattle.ppp_bundle.specs.Bundles.{control_of}
use Rattle.ppp_trunk.proofs.StepsLemmas.{controls-next, one-more}
use Rattle.ppp_trunk.proofs.steps.controls_of.Goals as goal

pub loop-i-preserved : goal.loop-i-preserved
loop-i-preserved c = record {
  count = length-set c.loop-i.controls c.from.result c.control.result ∙ c.loop-i.invariant.count;
  done = λ j below.
      controls-next c.loop-i.controls c.from.result c.control.result (λ i. control_of i c.args.bundles.now)
      (omega (arith, c.from.ensures, c.loop-i.invariant.count, c.loop-i-test.true))
      (c.control.ensures.value ∙ ap (λ i. control_of i c.args.bundles.now) (sym c.from.ensures))
      (λ n h. c.loop-i.invariant.done n (omega (arith, h, c.from.ensures))) j (omega (arith, below, c.from.ensures));
  within = λ j below.
      one-more (λ i. IfSome (control_of i c.args.bundles.now) (IsLinkOf c.args.bundles.now)) c.loop-i.i
      (subst (λ o. IfSome o (IsLinkOf c.args.bundles.now)) c.control.ensures.value c.control.ensures.within) c.loop-i.invariant.within j (omega (arith, below));
}

pub returns-clause-value : goal.returns-clause-value
returns-clause-value c = λ i below. c.loop-i.invariant.done i (omega (arith, below, c.loop-i-test.false))

pub returns-clause-within : goal.returns-clause-within
returns-clause-within c = λ i below. c.loop-i.invariant.within i (omega (arith, below, c.loop-i-test.false))
