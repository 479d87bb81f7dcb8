use Rattle.std.proofs.Common.{length, ap, arith}
use Rattle.ppp_packet.proofs.OptionLemmas.{length-list_of}
use Rattle.ppp_packet.proofs.options.count_in.Goals as goal

pub overflow_add-count : goal.overflow_add-count
overflow_add-count c = omega (arith, length-list_of c.args.octets.now c.options.invariant.all, ap length c.in-Some.ensures.parts, c.options.invariant.counted)
