use Rattle.std.proofs.Common.{◌≡◌, ◌∙◌, refl}
use Rattle.ppp_packet.specs.Options.{written}
use Rattle.ppp_packet.proofs.OptionLemmas.{HoldsOptions-written, list_of-written}
use Rattle.ppp_packet.proofs.opt_list.OptList.from_options.Goals as goal

-- what is kept is the list as it is written
kept_octets : (c : goal.In-Ok) → c.try_extend_from_slice.new.self.items ≡ written c.args.list.now
kept_octets c = c.in-Ok.ensures.ok ∙ rw (c.new-octets.ensures, c.octets.ensures) refl

pub invariant_of-result : goal.invariant_of-result
invariant_of-result c = rw (kept_octets c) (HoldsOptions-written c.args.list.now)

pub returns-in-Ok-clause-ok : goal.returns-in-Ok-clause-ok
returns-in-Ok-clause-ok c = rw (kept_octets c) (list_of-written c.args.list.now)
