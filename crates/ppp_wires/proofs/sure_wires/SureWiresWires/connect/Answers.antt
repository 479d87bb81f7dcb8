use Rattle.std.proofs.Common.{◌≡◌, ap}
use Rattle.ppp_wires.specs.SureWires.{SureWiresState}
use Rattle.ppp_wires.proofs.ConnectedLemmas.{connected-connect}
use Rattle.ppp_wires.proofs.sure_wires.SureWiresWires.connect.Goals as goal

pub returns-clause-ports : goal.returns-clause-ports
returns-clause-ports c =
    let old : c.self.inside.ports.ports ≡ c.args.self.now.ports = ap (λ (s : SureWiresState). s.ports) c.self.view_is in
    rw (c.note.ensures.ports, c.connect-answer.ensures.after, c.connect-answer.ensures.answer, c.as_bytes.ensures.value, ← old) (connected-connect c.args.port c.args.name.now c.args.listen c.self.inside.ports.ports)
