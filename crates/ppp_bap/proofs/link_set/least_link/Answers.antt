use Rattle.std.proofs.Common.{◌∙◌, sym, add-one}
use Rattle.std.proofs.lemmas.List.{drop_all}
use Rattle.ppp_bap.specs.LinkSet.{has_link, least_link, link_numbers}
use Rattle.ppp_bap.proofs.LinkSetLemmas.{find_here, find_further}
use Rattle.ppp_bap.proofs.link_set.least_link.Goals as goal

pub returns-then-has_link : goal.returns-then-has_link
unfolding least_link
returns-then-has_link c =
    sym (find_here (has_link c.args.links) link_numbers c.loop-link.link-index 0 c.loop-link-test.true (sym c.has_link.ensures ∙ c.if-has_link.true)) ∙ c.loop-link.invariant

pub loop-link-preserved : goal.loop-link-preserved
loop-link-preserved c =
    rw add-one (find_further (has_link c.args.links) link_numbers c.loop-link.link-index 0 c.loop-link-test.true (sym c.has_link.ensures ∙ c.if-has_link.false) ∙ c.loop-link.invariant)

pub returns : goal.returns
unfolding least_link
returns c = rw (drop_all _ _ c.loop-link-test.false) at c.loop-link.invariant
