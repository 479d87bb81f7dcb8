-- Packets as the code reads them.
use Rattle.ppp_auto.specs.Packet.{Packet, Request, Ack, Nak, Reject, Other}
use Rattle.ppp_party.specs.declared.packet.Packet.{Packet as Kept}
use Rattle.ppp_party.specs.declared.packet.Packet.TheVariants as kept

abbrev pub packet_seen : Kept → Packet
packet_seen (kept.Request id options) = Request id options
packet_seen (kept.Ack id options) = Ack id options
packet_seen (kept.Nak id options) = Nak id options
packet_seen (kept.Reject id options) = Reject id options
packet_seen (kept.Other code id octets) = Other code id octets.now
