use Rattle.std.proofs.Common.{[], sym, arith, append-nil}
use Rattle.ppp_link.proofs.LinkOutLemmas.{within-snoc}
use Rattle.ppp_link.proofs.link_out.LinkOut.tell.Goals as goal

pub invariant_of-self : goal.invariant_of-self
invariant_of-self c = record {
  within = rw c.push.ensures.items (within-snoc c.self.inside.octets.items c.self.inside.slots.items c.in-Some.slot c.self.invariant.within (c.in-Some.ensures.within c.self.inside.octets.items));
  sizes = omega (arith, c.push.ensures.len, c.self.invariant.sizes);
  room = c.self.invariant.room;
}

pub returns-in_default-clause-entry : goal.returns-in_default-clause-entry
returns-in_default-clause-entry c = rw (sym (c.in_default.ensures.told [])) (sym (append-nil c.args.self.now))
