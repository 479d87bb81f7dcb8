use Rattle.std.proofs.Common.{arith}
use Rattle.ppp_bap.proofs.RequestsLemmas.{sound-ended, sound-waiting}
use Rattle.ppp_bap.proofs.bap.Bap.timeout.Goals as goal

pub invariant_of-self : goal.invariant_of-self
invariant_of-self g c = (c.self.invariant.0, sound-ended c.from-then-waiting-ge-MOST_TRIES.result _ c.self.invariant.1)

pub invariant_of-self-2 : goal.invariant_of-self-2
invariant_of-self-2 g c =
    let one = c.self.invariant.1.waits c.from.result c.in-Some.waiting c.in-Some.is in (
      c.self.invariant.0,
      sound-waiting c.from-2.result _ _ c.self.invariant.1
          (record { id = one.id; link = one.link; least = omega arith; most = omega (arith, c.if-waiting-ge-MOST_TRIES.false); alike = one.alike }),
    )
