use Rattle.std.proofs.Common.{◌≡◌, ap}
use Rattle.ppp_wires.specs.SureWires.{SureWiresState}
use Rattle.ppp_wires.proofs.ConnectedLemmas.{connected-join}
use Rattle.ppp_wires.proofs.sure_wires.SureWiresWires.join.Goals as goal

pub returns-clause-ports : goal.returns-clause-ports
returns-clause-ports c =
    let old : c.self.inside.ports.ports ≡ c.args.self.now.ports = ap (λ (s : SureWiresState). s.ports) c.self.view_is in
    rw (c.note.ensures.ports, c.join.ensures, ← old) (connected-join c.args.link c.self.inside.ports.ports)
