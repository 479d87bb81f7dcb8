use Rattle.std.proofs.Common.{◌∙◌, sym, add-one}
use Rattle.std.proofs.lemmas.List.{drop_all}
use Rattle.ppp_bap.specs.BundleView.{stays_beside}
use Rattle.ppp_bap.specs.LinkSet.{some_link, link_numbers}
use Rattle.ppp_bap.proofs.LinkSetLemmas.{any_here, any_further}
use Rattle.ppp_bap.proofs.bundle_view.BundleView.has_staying.Goals as goal

pub returns-then-stays_beside : goal.returns-then-stays_beside
unfolding some_link
returns-then-stays_beside c =
    sym (any_here (stays_beside c.args.link c.args.self.now) link_numbers c.loop-other.other-index 0 c.loop-other-test.true (sym c.stays_beside.ensures ∙ c.if-stays_beside.true)) ∙ c.loop-other.invariant

pub loop-other-preserved : goal.loop-other-preserved
loop-other-preserved c =
    rw add-one (any_further (stays_beside c.args.link c.args.self.now) link_numbers c.loop-other.other-index 0 c.loop-other-test.true (sym c.stays_beside.ensures ∙ c.if-stays_beside.false) ∙ c.loop-other.invariant)

pub returns : goal.returns
unfolding some_link
returns c = rw (drop_all _ _ c.loop-other-test.false) at c.loop-other.invariant
