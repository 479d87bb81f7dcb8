-- A packet that a reader lends.
use Rattle.ppp_packet.specs.Packet.{RawPacket}
use Rattle.ppp_packet.specs.declared.packet_ref.PacketRef.{PacketRef}

abbrev pub packet_seen : PacketRef → RawPacket
packet_seen p = record { code = p.code; id = p.id; rest = p.rest.now }
