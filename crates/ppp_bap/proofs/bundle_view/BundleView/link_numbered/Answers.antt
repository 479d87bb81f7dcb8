use Rattle.std.proofs.Common.{◌∙◌, sym, add-one}
use Rattle.std.proofs.lemmas.List.{drop_all}
use Rattle.ppp_bap.specs.BundleView.{is_joined_as}
use Rattle.ppp_bap.specs.LinkSet.{least_link, link_numbers}
use Rattle.ppp_bap.proofs.LinkSetLemmas.{find_here, find_further}
use Rattle.ppp_bap.proofs.bundle_view.BundleView.link_numbered.Goals as goal

pub returns-then-is_joined_as : goal.returns-then-is_joined_as
unfolding least_link
returns-then-is_joined_as c =
    sym (find_here (is_joined_as c.args.number c.args.self.now) link_numbers c.loop-link.link-index 0 c.loop-link-test.true (sym c.is_joined_as.ensures ∙ c.if-is_joined_as.true)) ∙ c.loop-link.invariant

pub loop-link-preserved : goal.loop-link-preserved
loop-link-preserved c =
    rw add-one (find_further (is_joined_as c.args.number c.args.self.now) link_numbers c.loop-link.link-index 0 c.loop-link-test.true (sym c.is_joined_as.ensures ∙ c.if-is_joined_as.false) ∙ c.loop-link.invariant)

pub returns : goal.returns
unfolding least_link
returns c = rw (drop_all _ _ c.loop-link-test.false) at c.loop-link.invariant
