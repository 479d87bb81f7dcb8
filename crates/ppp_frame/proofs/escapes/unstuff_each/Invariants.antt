use Rattle.std.proofs.Common.{◌≡◌, ◌+◌, ◌++◌, length, take, drop}
use Rattle.ppp_frame.specs.Escapes.{escaped_after, unstuffed}
use Rattle.ppp_frame.proofs.escapes.unstuff_each.Given as goal

abbrev pub invariant-loop-octet : goal.invariant-loop-octet
invariant-loop-octet l = record {
  end : l.end + length (unstuffed l.behind (drop l.octet-index l.run)) ≡ l.at + length (unstuffed l.escaped l.run);
  escaped : escaped_after l.behind (drop l.octet-index l.run) ≡ escaped_after l.escaped l.run;
  written : take l.end l.room ++ unstuffed l.behind (drop l.octet-index l.run)
      ≡ take l.at l.fn.room ++ unstuffed l.escaped l.run;
}
