use Rattle.ppp_packet.specs.OptRef.{option_seen}
use Rattle.ppp_auto.specs.Reply.{is_sublist}
use Rattle.ppp_auto.proofs.ListLemmas.{sublist_step, sublist_end}
use Rattle.ppp_auto.proofs.taken.is_sublist.Goals as goal

pub options-preserved : goal.options-preserved
options-preserved c =
    rw c.without_first-wanted.ensures
    (sublist_step (is_sublist c.args.part.now c.args.list.now) c.options.wanted c.options.left c.in-Some.behind (option_seen c.in-Some.option) c.in-Some.ensures.parts c.options.invariant)

pub returns : goal.returns
returns c = sublist_end (is_sublist c.args.part.now c.args.list.now) c.is_empty.result c.options.wanted c.options.left c.in_default.ensures.parts c.options.invariant c.is_empty.ensures
