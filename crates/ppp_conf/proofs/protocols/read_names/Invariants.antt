use Rattle.std.proofs.Common.{◌≡◌, drop}
use Rattle.toml.specs.View.{items_view}
use Rattle.ppp_conf.specs.Protocols.{with_names, no_protocols}
use Rattle.ppp_conf.proofs.protocols.read_names.Given as goal

abbrev pub invariant-loop-value : goal.invariant-loop-value
invariant-loop-value l =
    with_names no_protocols (items_view l.values.items) ≡ with_names l.protocols (items_view (drop l.value-index l.values.items))
