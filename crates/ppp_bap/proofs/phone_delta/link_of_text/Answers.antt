use Rattle.std.proofs.Common.{◌∙◌, sym, add-one}
use Rattle.std.proofs.lemmas.List.{drop_all}
use Rattle.ppp_bap.specs.LinkSet.{link_numbers}
use Rattle.ppp_bap.specs.PhoneDelta.{is_text_of}
use Rattle.ppp_bap.proofs.LinkSetLemmas.{find_here, find_further}
use Rattle.ppp_bap.proofs.phone_delta.link_of_text.Goals as goal

pub returns-then-is_text_of : goal.returns-then-is_text_of
returns-then-is_text_of c =
    sym (find_here (is_text_of c.args.digits.now) link_numbers c.loop-link.link-index 0 c.loop-link-test.true (sym c.is_text_of.ensures ∙ c.if-is_text_of.true)) ∙ c.loop-link.invariant

pub loop-link-preserved : goal.loop-link-preserved
loop-link-preserved c =
    rw add-one (find_further (is_text_of c.args.digits.now) link_numbers c.loop-link.link-index 0 c.loop-link-test.true (sym c.is_text_of.ensures ∙ c.if-is_text_of.false) ∙ c.loop-link.invariant)

pub returns : goal.returns
returns c = rw (drop_all _ _ c.loop-link-test.false) at c.loop-link.invariant
