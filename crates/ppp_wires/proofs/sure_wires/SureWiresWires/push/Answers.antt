use Rattle.std.proofs.Common.{◌≡◌, ap}
use Rattle.ppp_wires.specs.SureWires.{SureWiresState}
use Rattle.ppp_wires.proofs.ConnectedLemmas.{connected-push}
use Rattle.ppp_wires.proofs.sure_wires.SureWiresWires.push.Goals as goal

pub returns-clause-ports : goal.returns-clause-ports
returns-clause-ports c =
    let old : c.self.inside.ports.ports ≡ c.args.self.now.ports = ap (λ (s : SureWiresState). s.ports) c.self.view_is in
    rw (c.note.ensures.ports, c.push-answer.ensures.after, ← old) (connected-push _ _ _ _)
