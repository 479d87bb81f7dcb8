use Rattle.std.proofs.Common.{◌≡◌, drop}
use Rattle.ppp_world.specs.Outstanding.{control_outstanding, first_among, outstanding_on, protocols}
use Rattle.ppp_world.proofs.span.wider_at.Given as goal

abbrev pub invariant-loop-i : goal.invariant-loop-i
invariant-loop-i g l = record {
  left : control_outstanding l.name l.link (record { own = l.own.party; other = l.other.party })
      ≡ first_among (outstanding_on l.name l.link (record { own = l.own.party; other = l.other.party })) (drop l.i protocols);
}
