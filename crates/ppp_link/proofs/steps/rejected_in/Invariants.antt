use Rattle.std.proofs.Common.{◌≡◌, drop}
use Rattle.ppp_link.specs.Steps.{rejected_in}
use Rattle.ppp_link.proofs.steps.rejected_in.Given as goal

abbrev pub invariant-loop-i : goal.invariant-loop-i
invariant-loop-i l = record {
  left : rejected_in (drop l.i l.outbox) ≡ rejected_in l.outbox;
}
