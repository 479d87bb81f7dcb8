use Rattle.std.proofs.Common.{refl}
use Rattle.ppp_packet.proofs.OptionLemmas.{list_of-nil, HoldsOptions-nil}
use Rattle.ppp_party.proofs.ledger.Ledger.begin.Goals as goal

pub invariant_of-self : goal.invariant_of-self
invariant_of-self c = (rw c.clear.ensures.items HoldsOptions-nil, rw c.clear-2.ensures.items HoldsOptions-nil)

pub returns : goal.returns
returns c = rw (c.clear.ensures.items, c.clear-2.ensures.items, list_of-nil) refl
