use Rattle.std.proofs.Common.{◌≡◌, ◌+◌, ◌*◌, ◌≤◌, drop}
use Rattle.ppp_link.specs.declared.link.TheConstants.{MOST_FRAME}
use Rattle.ppp_trunk.specs.Trunk.{held_in}
use Rattle.ppp_trunk.proofs.trunk.Trunk.held.Given as goal

abbrev pub invariant-loop-i : goal.invariant-loop-i
invariant-loop-i l = record {
  most : l.held ≤ l.i * MOST_FRAME;
  left : l.held + held_in (drop l.i l.self.links) ≡ held_in l.self.links;
}
