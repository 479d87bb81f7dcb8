use Rattle.std.proofs.Common.{◌∙◌, ◌+◌, sym, ap, take_all}
use Rattle.std.proofs.lemmas.List.Sums.{count_by_more_no, count_by_more_yes}
use Rattle.ppp_bap.specs.LinkSet.{count_links, has_link, link_numbers}
use Rattle.ppp_bap.proofs.link_set.count_links.Goals as goal
use Rattle.ppp_bap.proofs.link_set.count_links.Goals.{then-has_link, else-has_link}

pub loop-link-preserved : goal.loop-link-preserved
loop-link-preserved c =
    let before = c.loop-link.invariant in
    let at = c.has_link.ensures in
    elim c.if-has_link.branch [
      | then-has_link w ↦ rw (w.count-is, count_by_more_yes (has_link c.args.links) link_numbers c.loop-link.link-index 0 c.loop-link-test.true (sym at ∙ w.if-has_link.true)) (ap (λ n. n + 1) before)
      | else-has_link w ↦ rw (w.count-is, count_by_more_no (has_link c.args.links) link_numbers c.loop-link.link-index 0 c.loop-link-test.true (sym at ∙ w.if-has_link.false)) before
    ]

pub returns : goal.returns
unfolding count_links
returns c = rw (take_all _ _ c.loop-link-test.false) at c.loop-link.invariant
