use Rattle.std.proofs.Common.{◌≡◌, ◌+◌, ◌*◌, ◌≤◌, drop, length}
use Rattle.ppp_link.specs.Steps.{each_does, so_far}
use Rattle.ppp_link.specs.declared.steps.TheConstants.{MOST_ADDED}
use Rattle.ppp_link.proofs.automata.Automata.each.Given as goal

abbrev pub invariant-loop-i : goal.invariant-loop-i
invariant-loop-i l = record {
  tables : l.self.0 ≡ l.initial.self.0;
  few : length l.out ≤ length l.initial.out + l.i * MOST_ADDED;
  left : each_does l.initial.self.0 (drop l.i l.protos) l.event l.word (so_far l.self.1 l.out)
      ≡ each_does l.initial.self.0 l.protos l.event l.word (so_far l.initial.self.1 l.initial.out);
}
