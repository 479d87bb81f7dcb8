use Rattle.std.proofs.Common.{◌≡◌, ◌+◌, ◌++◌, length, take}
use Rattle.ppp_frame.specs.Escapes.{escaped_after, unstuffed}
use Rattle.ppp_frame.proofs.escapes.unstuff_eights.Given as goal

abbrev pub invariant-eights : goal.invariant-eights
invariant-eights l = record {
  end : l.end + length (unstuffed l.behind l.rest) ≡ l.at + length (unstuffed l.escaped l.run);
  escaped : escaped_after l.behind l.rest ≡ escaped_after l.escaped l.run;
  written : take l.end l.room ++ unstuffed l.behind l.rest ≡ take l.at l.fn.room ++ unstuffed l.escaped l.run;
}

abbrev pub decreases-eights : goal.decreases-eights
decreases-eights l = length l.rest
