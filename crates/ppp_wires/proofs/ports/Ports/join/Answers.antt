use Rattle.std.proofs.lemmas.List.{map-set}
use Rattle.ppp_wires.proofs.ports.Ports.join.Goals as goal

pub returns : goal.returns
returns c = rw (← c.self.view_is, c.join.ensures, c.join-2.ensures) (simp map-set)
