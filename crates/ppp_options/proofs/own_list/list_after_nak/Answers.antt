use Rattle.ppp_packet.specs.OptRef.{option_seen}
use Rattle.ppp_packet.specs.Options.{find_kind}
use Rattle.ppp_options.specs.Rules.{option_after}
use Rattle.ppp_options.specs.RuleLaw.{length-body_after}
use Rattle.ppp_options.proofs.OwnListLemmas.{map-step, room-step}
use Rattle.ppp_options.proofs.own_list.list_after_nak.Goals as goal

pub options-preserved : goal.options-preserved
options-preserved g c =
    let own = option_seen c.in-Some.option in
    let rules = g.T.OptionRules.rules c.args.table.now in
    let change = option_after rules c.args.nak.now c.args.word in
    record {
      changed = map-step change _ _ _ _ _ own c.options.invariant.changed c.in-Some.ensures.parts c.put_after_nak.ensures;
      room = room-step _ _ _ _ own (change own) c.options.invariant.room c.in-Some.ensures.parts c.put_after_nak.ensures
          (length-body_after rules (find_kind own.kind c.args.nak.now) c.args.word own (g.met.T.OptionRules.is_table c.args.table.now).each);
    }
