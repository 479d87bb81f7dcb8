use Rattle.std.proofs.Common.{◌≡◌, true}
use Rattle.ppp_wires.specs.Ports.{connected_ports}
use Rattle.ppp_wires.specs.Wires.{is_on}
use Rattle.ppp_wires.proofs.ports.Ports.listen.Goals as goal

pub take-requires-clause-other : goal.take-requires-clause-other
take-requires-clause-other c = λ same. let e : is_on (connected_ports c.args.self.now.ports) c.args.port ≡ true = rw same c.in-Some.ensures.connected in let f = c.requires.free in cc
