use Rattle.std.proofs.Common.{length, take, ◌-◌, ◌≤◌}
use Rattle.ppp_io.specs.Account.{PutsOn}
use Rattle.ppp_cli.proofs.output.finish.Given as goal

-- what was written so far is the front of the octets
abbrev pub invariant-writes : goal.invariant-writes
invariant-writes g l = record {
  within : l.at ≤ length l.octets;
  front : PutsOn (g.K.Sink.held l.initial.output) (g.K.Sink.held l.output) (take l.at l.octets);
  later : g.K.Sink.faults l.initial.output ≤ g.K.Sink.faults l.output;
}

abbrev pub decreases-writes : goal.decreases-writes
decreases-writes g l = length l.octets - l.at
