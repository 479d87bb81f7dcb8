use Rattle.std.proofs.Common.{◌∙◌, ◌-◌, ap, take}
use Rattle.ppp_auto.specs.Auto.{auto_seen}
use Rattle.ppp_auto.proofs.TakenLemmas.{echoed}
use Rattle.ppp_auto.proofs.taken.echo_answer.Goals as goal

pub returns : goal.returns
returns g c =
    echoed (g.T.OptionTable.table c.args.table.now) (auto_seen c.args.auto.now) c.args.packet.code c.args.packet.id _ c.args.packet.rest.now _ _ (c.if-packet-number.false ∙ c.number.ensures)
    c.requires.cap.low c.magic.ensures (rw (← c.from.ensures) (c.cut-kept.ensures.octets ∙ ap (take (c.from.result - 4 - 4)) c.split_at.ensures.back)) c.echo.ensures
