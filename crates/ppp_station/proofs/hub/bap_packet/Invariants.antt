use Rattle.std.proofs.Common.{◌≡◌, drop}
use Rattle.ppp_station.specs.Steps.{bap_packet}
use Rattle.ppp_station.proofs.hub.bap_packet.Given as goal

abbrev pub invariant-loop-i : goal.invariant-loop-i
invariant-loop-i l = bap_packet (drop l.i l.told.entries) ≡ bap_packet l.told.entries
