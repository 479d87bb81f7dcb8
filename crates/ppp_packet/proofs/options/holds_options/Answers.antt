use Rattle.std.proofs.Common.{◌∙◌, sym}
use Rattle.std.proofs.lemmas.Bool.{eqb-true}
use Rattle.ppp_packet.specs.OptRef.{option_seen}
use Rattle.ppp_packet.proofs.OptionLemmas.{is_some-behind, is_some-empty}
use Rattle.ppp_packet.proofs.options.holds_options.Goals as goal

pub options-preserved : goal.options-preserved
options-preserved c =
    is_some-behind (option_seen c.in-Some.field-0-0) c.options.left.now c.in-Some.behind.now c.in-Some.ensures.begins ∙ c.options.invariant

pub returns : goal.returns
returns c = sym (is_some-empty c.options.left.now (eqb-true _ _ (sym c.is_empty.ensures ∙ c.options-test.false))) ∙ c.options.invariant
