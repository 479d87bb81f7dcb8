use Rattle.std.proofs.Common.{arith}
use Rattle.ppp_auto.specs.declared.outbox.Slot.TheVariants.{Told}
use Rattle.ppp_auto.proofs.OutboxLemmas.{within_snoc}
use Rattle.ppp_auto.proofs.outbox.Outbox.tell.Goals as goal

pub invariant_of-self : goal.invariant_of-self
invariant_of-self c = record {
  within = rw c.push.ensures.items (within_snoc c.self.inside.octets.items c.self.inside.slots.items (Told c.args.signal) c.self.invariant.within tt);
  sizes = omega (arith, c.push.ensures.len);
  room = c.self.invariant.room;
}
