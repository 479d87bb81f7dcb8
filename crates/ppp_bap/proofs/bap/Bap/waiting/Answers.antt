use Rattle.ppp_bap.proofs.bap.Bap.waiting.Goals as goal

pub returns-in-Some-clause-link : goal.returns-in-Some-clause-link
returns-in-Some-clause-link g c = (c.self.invariant.1.waits c.from.result c.in-Some.waiting c.in-Some.is).link
