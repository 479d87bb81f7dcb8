use Rattle.ppp_packet.proofs.OptionLemmas.{HoldsOptions-nil, list_of-nil}
use Rattle.ppp_packet.proofs.opt_list.OptList.new.Goals as goal

pub invariant_of-result : goal.invariant_of-result
invariant_of-result c = rw c.new.ensures HoldsOptions-nil

pub returns : goal.returns
returns c = rw c.new.ensures list_of-nil
