use Rattle.std.proofs.Common.{◌∙◌, sym}
use Rattle.ppp_packet.proofs.OptionLemmas.{is_some-HoldsOptions, is_none-options_of, options_of-HoldsOptions, unread}
use Rattle.ppp_packet.proofs.options.read_options.Goals as goal

pub invariant_of-result : goal.invariant_of-result
invariant_of-result c = is_some-HoldsOptions c.args.bytes.now (sym c.holds_options.ensures ∙ c.if-holds_options.true)

pub returns-then-holds_options-clause-some : goal.returns-then-holds_options-clause-some
returns-then-holds_options-clause-some c = is_some-HoldsOptions c.args.bytes.now (sym c.holds_options.ensures ∙ c.if-holds_options.true)

pub returns-then-holds_options-clause-exact : goal.returns-then-holds_options-clause-exact
returns-then-holds_options-clause-exact c =
    sym (options_of-HoldsOptions c.args.bytes.now (is_some-HoldsOptions c.args.bytes.now (sym c.holds_options.ensures ∙ c.if-holds_options.true)))

pub returns-else-holds_options-clause-none : goal.returns-else-holds_options-clause-none
returns-else-holds_options-clause-none c = λ list is.
    unread c.args.bytes.now list (is_none-options_of c.args.bytes.now (sym c.holds_options.ensures ∙ c.if-holds_options.false)) is
