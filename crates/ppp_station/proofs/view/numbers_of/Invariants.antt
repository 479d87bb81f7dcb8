use Rattle.std.proofs.Common.{◌≡◌, ◌-◌, ◌++◌, map, replicate, take}
use Rattle.std.specs.Prelude.{None}
use Rattle.ppp_station.specs.View.{own_number, peer_number}
use Rattle.ppp_station.proofs.view.numbers_of.Given as goal

abbrev pub invariant-loop-i : goal.invariant-loop-i
invariant-loop-i l = record {
  own : l.own ≡ map own_number (take l.i l.trunk.links) ++ replicate (16 - l.i) None;
  peer : l.peer ≡ map peer_number (take l.i l.trunk.links) ++ replicate (16 - l.i) None;
}
