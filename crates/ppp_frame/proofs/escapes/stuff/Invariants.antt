use Rattle.std.proofs.Common.{◌≡◌, ◌+◌, ◌*◌, ◌≤◌, ◌++◌, length, take}
use Rattle.ppp_frame.specs.Escapes.{stuffed}
use Rattle.ppp_frame.proofs.escapes.stuff.Given as goal

abbrev pub invariant-whole : goal.invariant-whole
invariant-whole l = record {
  end : l.end + length (stuffed l.spelling.map l.rest) ≡ l.at + length (stuffed l.spelling.map l.octets);
  within : l.end + 2 * length l.rest ≤ l.at + 2 * length l.octets;
  written : take l.end l.room ++ stuffed l.spelling.map l.rest
      ≡ take l.at l.fn.room ++ stuffed l.spelling.map l.octets;
}

abbrev pub decreases-whole : goal.decreases-whole
decreases-whole l = length l.rest
