use Rattle.std.proofs.Common.{◌≡◌, ◌+◌, ◌-◌, length}
use Rattle.ppp_world.specs.Outstanding.{outstanding_from}
use Rattle.ppp_world.proofs.span.wider_among_risen.Given as goal

abbrev pub invariant-loop-i : goal.invariant-loop-i
invariant-loop-i g l = record {
  left : outstanding_from l.name (length l.own.party.trunk.links) 1 (record { own = l.own.party; other = l.other.party })
      ≡ outstanding_from l.name (length l.own.party.trunk.links - l.i) (l.i + 1) (record { own = l.own.party; other = l.other.party });
}
