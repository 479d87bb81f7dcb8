use Rattle.std.proofs.Common.{◌∙◌, ap}
use Rattle.std.specs.Prelude.{slice_get}
use Rattle.std.proofs.lemmas.Option.{get_or_from_slice_get}
use Rattle.ppp_station.proofs.WaitLemmas.{settle-last, settle-next}
use Rattle.ppp_station.proofs.waits.settle.Goals as goal

pub loop-i-preserved : goal.loop-i-preserved
loop-i-preserved g c = record {
  left = λ t are.
      settle-next c.loop-i.i t c.args.trunk.now c.loop-i.bap.requests _ _ c.loop-i-test.true
      (c.settle_one.ensures.requests t (get_or_from_slice_get c.args.before.now c.from.result _ _ (ap (slice_get c.args.before.now) c.from.ensures ∙ are c.loop-i.i c.loop-i-test.true)))
      (c.loop-i.invariant.left t are);
  policy = c.settle_one.ensures.policy ∙ c.loop-i.invariant.policy;
}

pub returns-clause-requests : goal.returns-clause-requests
returns-clause-requests g c = λ t are. settle-last c.loop-i.i t c.args.trunk.now c.loop-i.bap.requests _ c.loop-i-test.false (c.loop-i.invariant.left t are)
