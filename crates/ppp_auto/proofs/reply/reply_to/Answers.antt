use Rattle.std.proofs.Common.{◌∙◌, refl, sym, ap, arith}
use Rattle.ppp_packet.proofs.OptionLemmas.{HoldsOptions-written}
use Rattle.ppp_auto.specs.declared.input.Input.TheVariants.{ReceiveConfigureRequestGood}
use Rattle.ppp_auto.specs.Auto.{is_stopped}
use Rattle.ppp_auto.specs.Packet.{Packet, Ack, Nak, Reject}
use Rattle.ppp_auto.specs.Reply.{Reply, refusing}
use Rattle.ppp_auto.proofs.ReplyLemmas.{judging_sent, kept_clean, reply_rejecting, reply_clean, reply_good, acked_short, empty_list, filled_list, answered}
use Rattle.ppp_auto.proofs.reply.reply_to.Goals as goal

pub reject-requires-clause-options : goal.reject-requires-clause-options
reject-requires-clause-options g c = rw (c.octets.ensures.value, c.requires.settled.kept.shown) (HoldsOptions-written _)

pub returns-then-rejects : goal.returns-then-rejects
returns-then-rejects g c =
    ap (λ (p : Packet). refusing p) (answered (Reject c.args.id) _ _ _ c.reject.ensures (c.octets.ensures.value ∙ c.requires.settled.kept.shown))
    ∙ sym (reply_rejecting c.args.auto.now.naks c.args.id c.args.theirs.now _ _ _ _ _ c.args.judged.now refl c.requires.settled (sym c.rejects.ensures ∙ c.if-rejects.true))

pub ack-requires-clause-options : goal.ack-requires-clause-options
ack-requires-clause-options g c = rw c.requires.octets (HoldsOptions-written _)

pub ack-requires-clause-short : goal.ack-requires-clause-short
ack-requires-clause-short g c =
    let k = kept_clean (g.T.OptionTable.table c.args.table.now) _ _ _ _ (g.met.T.OptionTable.lawful c.args.table.now) _ c.args.word c.args.theirs.now _ c.args.judged.now c.requires.settled (sym c.rejects.ensures ∙ c.if-rejects.false) in
    let l = g.met.T.OptionTable.lawful c.args.table.now in
    let sent = judging_sent (g.T.OptionTable.sendable c.args.table.now) (is_stopped c.args.auto.now.state) ((g.T.OptionTable.table c.args.table.now).initial c.args.word) c.args.auto.now.own (l.first_sent c.args.word) c.requires.sendable in
    rw c.requires.octets (omega (arith, acked_short _ _ _ _ _ l _ _ c.args.theirs.now sent k.none (empty_list _ _ _ k.octets c.is_empty.ensures c.if-is_empty.true)))

pub returns-then-is_empty : goal.returns-then-is_empty
returns-then-is_empty g c =
    let k = kept_clean (g.T.OptionTable.table c.args.table.now) _ _ _ _ (g.met.T.OptionTable.lawful c.args.table.now) _ c.args.word c.args.theirs.now _ c.args.judged.now c.requires.settled (sym c.rejects.ensures ∙ c.if-rejects.false) in
    ap (λ (p : Packet). good p) (answered (Ack c.args.id) _ _ _ c.ack.ensures c.requires.octets)
    ∙ sym (reply_good c.args.auto.now.naks c.args.id c.args.theirs.now _ _ _ _ k.clean (empty_list _ _ _ k.octets c.is_empty.ensures c.if-is_empty.true))
  where
    good : Packet → Reply
    good p = record { input = ReceiveConfigureRequestGood; answer = p }

pub nak-requires-clause-options : goal.nak-requires-clause-options
nak-requires-clause-options g c = let k = kept_clean (g.T.OptionTable.table c.args.table.now) _ _ _ _ (g.met.T.OptionTable.lawful c.args.table.now) _ c.args.word c.args.theirs.now _ c.args.judged.now c.requires.settled (sym c.rejects.ensures ∙ c.if-rejects.false) in rw (c.octets-2.ensures.value, k.octets) (HoldsOptions-written _)

pub returns : goal.returns
returns g c =
    let k = kept_clean (g.T.OptionTable.table c.args.table.now) _ _ _ _ (g.met.T.OptionTable.lawful c.args.table.now) _ c.args.word c.args.theirs.now _ c.args.judged.now c.requires.settled (sym c.rejects.ensures ∙ c.if-rejects.false) in
    ap (λ (p : Packet). refusing p) (answered (Nak c.args.id) _ _ _ c.nak.ensures (c.octets-2.ensures.value ∙ k.octets))
    ∙ sym (reply_clean c.args.auto.now.naks c.args.id c.args.theirs.now _ _ _ _ _ c.args.judged.now refl c.requires.settled (sym c.rejects.ensures ∙ c.if-rejects.false)
    (filled_list _ _ _ k.octets c.is_empty.ensures c.if-is_empty.false))
