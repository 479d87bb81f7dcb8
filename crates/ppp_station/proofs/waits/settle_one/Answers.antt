use Rattle.std.proofs.Common.{◌∙◌, sym}
use Rattle.ppp_station.proofs.WaitLemmas.{settled-off, settled-on}
use Rattle.ppp_station.proofs.waits.settle_one.Goals as goal

pub returns-then-not-waits_on-clause-requests : goal.returns-then-not-waits_on-clause-requests
returns-then-not-waits_on-clause-requests g c = λ t is.
    settled-off c.args.bundle c.in-Some.request _ c.waits_on.result t c.args.trunk.now c.args.bap.now.requests _
    (sym c.waiting.ensures.value ∙ c.in-Some.is) (c.waits_on.ensures t is) c.if-not-waits_on.true c.reset.ensures.requests

pub returns-else-not-waits_on-clause-requests : goal.returns-else-not-waits_on-clause-requests
returns-else-not-waits_on-clause-requests g c = λ t is.
    settled-on c.args.bundle c.in-Some.request _ c.waits_on.result t c.args.trunk.now c.args.bap.now.requests
    (sym c.waiting.ensures.value ∙ c.in-Some.is) (c.waits_on.ensures t is) c.if-not-waits_on.false
