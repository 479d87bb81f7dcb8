use Rattle.std.proofs.Common.{◌≡◌, ◌<◌, ◌≤◌, ◌∙◌, sym, length, None, Some}
use Rattle.ppp_conf.specs.Protocols.{with_name}
use Rattle.toml.specs.Data.{as_str}
use Rattle.toml.specs.View.{view}
use Rattle.ppp_conf.proofs.ProtocolsLemmas.{with_names-more, with_names-stop, with_names-end}
use Rattle.ppp_conf.proofs.protocols.read_names.Goals as goal

pub returns-in_err-protocols : goal.returns-in_err-protocols
returns-in_err-protocols c =
    let within : c.loop-value.value-index < length c.args.values.now.items = rw c.deref-value-items.ensures.value at c.loop-value-test.true in
    let named : with_name c.loop-value.protocols (as_str (view c.value-item.result)) ≡ None = rw (← c.as_str.ensures) (sym c.with_name.ensures ∙ c.in_err-protocols.was) in
    c.from_residual.ensures ∙ sym (c.loop-value.invariant ∙ with_names-stop _ _ _ _ within (rw (← c.deref-value-items.ensures.value) c.value-item.is) named)

pub loop-value-preserved : goal.loop-value-preserved
loop-value-preserved c =
    let within : c.loop-value.value-index < length c.args.values.now.items = rw c.deref-value-items.ensures.value at c.loop-value-test.true in
    let named : with_name c.loop-value.protocols (as_str (view c.value-item.result)) ≡ Some c.in_ok-protocols.protocols = rw (← c.as_str.ensures) (sym c.with_name.ensures ∙ c.in_ok-protocols.was) in
    c.loop-value.invariant ∙ with_names-more _ _ _ _ _ within (rw (← c.deref-value-items.ensures.value) c.value-item.is) named

pub returns : goal.returns
returns c =
    let past : length c.args.values.now.items ≤ c.loop-value.value-index = rw c.deref-value-items.ensures.value at c.loop-value-test.false in
    sym (c.loop-value.invariant ∙ with_names-end _ _ _ past)
