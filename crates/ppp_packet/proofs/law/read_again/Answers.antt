-- What is written reads as the same, and nothing else reads so.
use Rattle.ppp_packet.specs.Packet.{raw_packet}
use Rattle.ppp_packet.proofs.PacketLemmas.{IsPacket-raw_packet_of, raw_packet_of-IsPacket}
use Rattle.ppp_packet.proofs.OptionLemmas.{options_of-written, IsOptions-options_of, options_of-IsOptions}
use Rattle.ppp_packet.proofs.DiscLemmas.{disc_order-fields}
use Rattle.ppp_packet.proofs.law.read_again.Goals as goal

pub returns-clause-list : goal.returns-clause-list
returns-clause-list c = options_of-written

pub returns-clause-list_reading : goal.returns-clause-list_reading
returns-clause-list_reading c = λ list bytes. (IsOptions-options_of list bytes, options_of-IsOptions list bytes)

pub returns-clause-packet_reading : goal.returns-clause-packet_reading
returns-clause-packet_reading c = λ code id rest bytes octets.
    (IsPacket-raw_packet_of bytes (raw_packet code id rest) octets, raw_packet_of-IsPacket code id rest bytes)

pub returns-clause-discriminator_order : goal.returns-clause-discriminator_order
returns-clause-discriminator_order c = λ one other. disc_order-fields one other
