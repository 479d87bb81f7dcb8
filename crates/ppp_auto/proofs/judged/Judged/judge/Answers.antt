use Rattle.ppp_packet.specs.OptRef.{option_seen}
use Rattle.ppp_auto.proofs.JudgedLemmas.{walks_first, walks_on, walks_all}
use Rattle.ppp_auto.proofs.judged.Judged.judge.Goals as goal

pub options-init : goal.options-init
options-init g c = walks_first _ _ _ _ _ c.copied-left.ensures c.requires

pub options-preserved : goal.options-preserved
options-preserved g c =
    rw c.mark-twice.ensures.after
    (walks_on _ _ _ c.options.left c.in-Some.behind c.options.seen c.options.self _ (option_seen c.in-Some.option) _ _ c.options.invariant c.in-Some.ensures.parts c.mark-twice.ensures.kind
    c.judge.ensures c.mark-twice.ensures.before c.judge_one.ensures)

pub returns : goal.returns
returns g c = walks_all _ _ _ c.options.left c.options.seen _ c.options.invariant c.in_default.ensures.parts
