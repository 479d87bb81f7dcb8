use Rattle.std.proofs.Common.{◌+◌, ◌≤◌, vec_len, ◌-◌}
use Rattle.ppp_io.specs.Account.{TakesOff}
use Rattle.ppp_cli.specs.declared.input.TheConstants.{MOST_OCTETS}
use Rattle.ppp_cli.proofs.input.read_input.Given as goal

-- what was taken so far is the text
abbrev pub invariant-reads : goal.invariant-reads
invariant-reads g l = record {
  taken : TakesOff (g.S.Source.left l.initial.input) (g.S.Source.left l.input) l.text.items;
  within : vec_len l.text ≤ MOST_OCTETS + 1;
  later : g.S.Source.faults l.initial.input ≤ g.S.Source.faults l.input;
}

abbrev pub decreases-reads : goal.decreases-reads
decreases-reads g l = (MOST_OCTETS + 1) - vec_len l.text
