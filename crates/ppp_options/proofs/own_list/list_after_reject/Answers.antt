use Rattle.std.proofs.Common.{not, refl, arith}
use Rattle.ppp_auto.specs.Reply.{has_kind}
use Rattle.ppp_packet.specs.OptRef.{option_seen}
use Rattle.ppp_options.proofs.OwnListLemmas.{filter-kept, room-step}
use Rattle.ppp_options.proofs.own_list.list_after_reject.Goals as goal

pub options-preserved-then-not-has_option : goal.options-preserved-then-not-has_option
options-preserved-then-not-has_option c =
    let own = option_seen c.in-Some.option in
    record {
      left_over = filter-kept (λ o. not (has_kind o.kind c.args.reject.now)) _ _ _ _ _ own (grind arith) c.options.invariant.left_over c.in-Some.ensures.parts c.put.ensures;
      room = room-step _ _ _ _ own own c.options.invariant.room c.in-Some.ensures.parts c.put.ensures refl;
    }
