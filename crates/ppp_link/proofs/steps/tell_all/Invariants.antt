use Rattle.std.proofs.Common.{◌≡◌, ◌+◌, ◌≤◌, ◌++◌, drop, length}
use Rattle.ppp_link.specs.Steps.{told_all}
use Rattle.ppp_link.proofs.steps.tell_all.Given as goal

abbrev pub invariant-loop-i : goal.invariant-loop-i
invariant-loop-i l = record {
  few : length l.out ≤ length l.initial.out + l.i;
  left : l.out ++ told_all l.form l.proto (drop l.i l.outbox) ≡ l.initial.out ++ told_all l.form l.proto l.outbox;
}
