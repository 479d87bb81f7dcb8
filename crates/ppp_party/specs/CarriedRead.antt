-- What a frame carries, as the code reads it.
use Rattle.ppp_party.specs.Frame.{Carried}
use Rattle.ppp_party.specs.PacketRead.{packet_seen}
use Rattle.ppp_party.specs.declared.carried.Carried.{Carried as Kept}

abbrev pub carried_seen : Kept → Carried
carried_seen c = record { proto = c.proto; packet = packet_seen c.packet }
