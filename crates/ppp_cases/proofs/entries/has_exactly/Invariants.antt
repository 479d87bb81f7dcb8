use Rattle.std.proofs.Common.{◌≡◌, map, take, length}
use Rattle.ppp_cases.specs.Entry.{wanted_seen}
use Rattle.ppp_cases.proofs.entries.has_exactly.Given as goal

abbrev pub invariant-loop-i : goal.invariant-loop-i
invariant-loop-i l = record {
  alike : length l.out ≡ length l.entries;
  compared : take l.i l.out ≡ map wanted_seen (take l.i l.entries);
}
