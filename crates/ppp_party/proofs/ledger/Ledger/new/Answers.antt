use Rattle.std.proofs.Common.{refl}
use Rattle.ppp_packet.proofs.OptionLemmas.{list_of-nil, HoldsOptions-nil}
use Rattle.ppp_party.proofs.ledger.Ledger.new.Goals as goal

pub invariant_of-result : goal.invariant_of-result
invariant_of-result c = (rw c.new.ensures.items HoldsOptions-nil, rw c.new-2.ensures.items HoldsOptions-nil)

pub returns : goal.returns
returns c = rw (c.new.ensures.items, c.new-2.ensures.items, list_of-nil) refl
