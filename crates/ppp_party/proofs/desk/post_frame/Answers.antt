use Rattle.std.proofs.Common.{◌∷◌, [], ap, ◌∙◌}
use Rattle.ppp_party.specs.About.{about_of}
use Rattle.ppp_party.specs.Frame.{mark_by, noted_by}
use Rattle.ppp_party.specs.Party.{queued}
use Rattle.ppp_party.proofs.ResultLemmas.{on_ok, on_ok_map}
use Rattle.ppp_party.proofs.SendLemmas.{bap-is, carried-is}
use Rattle.ppp_party.proofs.desk.post_frame.Goals as goal

pub send-requires-clause-bap : goal.send-requires-clause-bap
send-requires-clause-bap c = c.lent_bap_kind.ensures ∙ bap-is c.args.octets.now _ c.read.ensures.frame

pub send-requires-clause-about : goal.send-requires-clause-about
send-requires-clause-about c = c.of.ensures ∙ ap about_of (c.lent_carried-carried.ensures ∙ carried-is c.args.octets.now _ c.read.ensures.frame)

pub returns-clause-ledgers : goal.returns-clause-ledgers
returns-clause-ledgers c =
    on_ok c.send.result (c.in_ok-mark.ensures.noted ∙ ap (noted_by c.args.ledgers.now) (c.lent_carried-carried.ensures ∙ carried-is c.args.octets.now _ c.read.ensures.frame))

pub returns-clause-queue : goal.returns-clause-queue
returns-clause-queue c =
    let mark_is = c.in_ok-mark.ensures.mark ∙ ap (mark_by c.args.ledgers.now c.args.mark) (c.lent_carried-carried.ensures ∙ carried-is c.args.octets.now _ c.read.ensures.frame) in
    on_ok_map c.send.result c.send.ensures.ok (λ is. is ∙ ap (λ mark. queued c.args.queue.now (record { mark = mark; octets = c.args.octets.now } ∷ [])) mark_is)
