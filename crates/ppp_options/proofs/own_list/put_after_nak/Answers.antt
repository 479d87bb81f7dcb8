use Rattle.ppp_packet.specs.OptRef.{option_seen}
use Rattle.std.proofs.Common.{sym, ◌∙◌}
use Rattle.ppp_options.proofs.OwnListLemmas.{after-room}
use Rattle.ppp_options.proofs.own_list.put_after_nak.Goals as goal

pub put-requires : goal.put-requires
put-requires g c =
    record {
      room = rw c.body.ensures.value
          (after-room (g.T.OptionRules.rules c.args.table.now) c.args.list.now (option_seen c.args.option) c.after_nak-after.result _ _
          (g.met.T.OptionRules.is_table c.args.table.now) (sym c.is_sent.ensures ∙ c.if-is_sent.true) c.after_nak-after.ensures c.requires.room);
    }
