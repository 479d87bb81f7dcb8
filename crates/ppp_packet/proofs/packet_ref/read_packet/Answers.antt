use Rattle.std.proofs.Common.{◌∙◌, arith}
use Rattle.ppp_packet.proofs.PacketLemmas.{IsPacket-split}
use Rattle.ppp_packet.proofs.packet_ref.read_packet.Goals as goal

pub returns-clause-some : goal.returns-clause-some
returns-clause-some c =
    IsPacket-split c.args.bytes.now c.split_at.result.0.now c.split_at.result.1.now c.from-size.result
    c.if-bytes-lt-PACKET_HEADER.false c.split_at.ensures.front c.split_at.ensures.back (c.from-size.ensures ∙ c.read_u16.ensures)
    (omega (arith, c.type_inv.bytes 3)) c.if-size-lt-PACKET_HEADER.false c.if-bytes-size.false
