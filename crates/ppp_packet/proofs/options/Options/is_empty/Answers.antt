use Rattle.ppp_packet.proofs.OptionLemmas.{empty_test}
use Rattle.ppp_packet.proofs.options.Options.is_empty.Goals as goal

pub returns : goal.returns
returns c = rw (← c.self.view_is) (empty_test c.is_empty.result c.self.inside.octets.now c.self.invariant c.is_empty.ensures)
