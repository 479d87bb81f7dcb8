use Rattle.std.proofs.Common.{◌∙◌, ◌+◌, sym, ap, take_all}
use Rattle.std.proofs.lemmas.List.Sums.{count_by_more_no, count_by_more_yes}
use Rattle.ppp_bap.specs.BundleView.{stays_beside}
use Rattle.ppp_bap.specs.LinkSet.{count_links, link_numbers}
use Rattle.ppp_bap.proofs.bundle_view.BundleView.staying_count.Goals as goal
use Rattle.ppp_bap.proofs.bundle_view.BundleView.staying_count.Goals.{then-stays_beside, else-stays_beside}

pub loop-other-preserved : goal.loop-other-preserved
loop-other-preserved c =
    let before = c.loop-other.invariant in
    let at = c.stays_beside.ensures in
    elim c.if-stays_beside.branch [
      | then-stays_beside w ↦ rw (w.count-is, count_by_more_yes (stays_beside c.args.link c.args.self.now) link_numbers c.loop-other.other-index 0 c.loop-other-test.true (sym at ∙ w.if-stays_beside.true)) (ap (λ n. n + 1) before)
      | else-stays_beside w ↦ rw (w.count-is, count_by_more_no (stays_beside c.args.link c.args.self.now) link_numbers c.loop-other.other-index 0 c.loop-other-test.true (sym at ∙ w.if-stays_beside.false)) before
    ]

pub returns : goal.returns
unfolding count_links
returns c = rw (take_all _ _ c.loop-other-test.false) at c.loop-other.invariant
