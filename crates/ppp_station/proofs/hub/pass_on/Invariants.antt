use Rattle.std.proofs.Common.{◌≡◌, ◌+◌, ◌≤◌, ◌++◌, drop, length}
use Rattle.ppp_trunk.specs.StationOut.{AreShort, all_octets}
use Rattle.ppp_station.specs.Heard.{AreBare}
use Rattle.ppp_station.specs.Steps.{passed_on}
use Rattle.ppp_station.proofs.hub.pass_on.Given as goal

abbrev pub invariant-loop-i : goal.invariant-loop-i
invariant-loop-i l = record {
  few : length l.out.entries ≤ length l.initial.out.entries + l.i;
  octets : all_octets l.out.entries + all_octets (drop l.i l.told.entries) ≤ all_octets l.initial.out.entries + all_octets l.told.entries;
  short : AreShort (drop l.i l.told.entries);
  bare : AreBare (drop l.i l.told.entries);
  left : l.out.entries ++ passed_on (drop l.i l.told.entries) ≡ l.initial.out.entries ++ passed_on l.told.entries;
}
