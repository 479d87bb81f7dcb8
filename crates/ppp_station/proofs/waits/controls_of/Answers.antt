use Rattle.std.proofs.Common.{arith, ap, length-set, sym, ◌∙◌}
use Rattle.ppp_bundle.specs.Bundles.{control_of}
use Rattle.ppp_station.proofs.ViewLemmas.{controls-next}
use Rattle.ppp_station.proofs.waits.controls_of.Goals as goal

pub loop-i-preserved : goal.loop-i-preserved
loop-i-preserved c = record {
  count = length-set c.loop-i.controls c.from.result c.control.result ∙ c.loop-i.invariant.count;
  done = λ j below.
      controls-next c.loop-i.controls c.from.result c.control.result (λ i. control_of i c.args.bundles.now)
      (omega (arith, c.from.ensures, c.loop-i.invariant.count, c.loop-i-test.true))
      (c.control.ensures.value ∙ ap (λ i. control_of i c.args.bundles.now) (sym c.from.ensures))
      (λ n h. c.loop-i.invariant.done n (omega (arith, h, c.from.ensures))) j (omega (arith, below, c.from.ensures));
}

pub returns : goal.returns
returns c = λ i below. c.loop-i.invariant.done i (omega (arith, below, c.loop-i-test.false))
