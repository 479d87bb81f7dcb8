use Rattle.std.proofs.Common.{◌≡◌, ◌+◌, ◌≤◌, drop, length}
use Rattle.ppp_trunk.specs.Phases.{IsTrunk}
use Rattle.ppp_trunk.specs.StationOut.{all_octets}
use Rattle.ppp_station.specs.Brought.{AreBrought, made_by_all, octets_by_all}
use Rattle.ppp_station.specs.Steps.{brings, so_far}
use Rattle.ppp_station.proofs.hub.Hub.bring.Given as goal

abbrev pub invariant-loop-i : goal.invariant-loop-i
invariant-loop-i g l = record {
  trunk : IsTrunk l.self.trunk;
  are : AreBrought l.bundle l.word (drop l.i l.brought) (so_far l.self.trunk l.self.bap.requests l.out.entries);
  few : length l.out.entries + made_by_all (drop l.i l.brought) ≤ length l.initial.out.entries + made_by_all l.brought;
  octets : all_octets l.out.entries + octets_by_all (drop l.i l.brought) ≤ all_octets l.initial.out.entries + octets_by_all l.brought;
  left : brings l.bundle l.word (drop l.i l.brought) (so_far l.self.trunk l.self.bap.requests l.out.entries)
      ≡ brings l.bundle l.word l.brought (so_far l.initial.self.trunk l.initial.self.bap.requests l.initial.out.entries);
  terms : l.self.terms ≡ l.initial.self.terms;
  policy : l.self.bap.policy ≡ l.initial.self.bap.policy;
}
