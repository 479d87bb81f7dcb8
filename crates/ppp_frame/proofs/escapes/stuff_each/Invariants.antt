use Rattle.std.proofs.Common.{◌≡◌, ◌+◌, ◌*◌, ◌≤◌, ◌++◌, length, take}
use Rattle.ppp_frame.specs.Escapes.{stuffed}
use Rattle.ppp_frame.proofs.escapes.stuff_each.Given as goal

abbrev pub invariant-loop-octet : goal.invariant-loop-octet
invariant-loop-octet l = record {
  end : l.end ≡ l.at + length (stuffed l.spelling.map (take l.octet-index l.octets));
  within : l.end ≤ l.at + 2 * l.octet-index;
  written : take l.end l.room ≡ take l.at l.fn.room ++ stuffed l.spelling.map (take l.octet-index l.octets);
}
