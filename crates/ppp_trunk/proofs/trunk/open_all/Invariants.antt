use Rattle.std.proofs.Common.{◌≡◌, drop}
use Rattle.ppp_trunk.specs.Trunk.{opens_all}
use Rattle.ppp_trunk.proofs.trunk.open_all.Given as goal

abbrev pub invariant-loop-i : goal.invariant-loop-i
invariant-loop-i l = record {
  left : opens_all (drop l.i l.protos) l.link ≡ opens_all l.protos l.initial.link;
}
