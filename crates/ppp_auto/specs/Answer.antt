-- The packet that answers another.
use Rattle.std.specs.Prelude.{◌≡◌, ℕ, ◌≤◌, List, [], ◌++◌, length, Option, Some, None}
use Rattle.ppp_packet.specs.declared.code.Code.{Code}
use Rattle.ppp_packet.specs.declared.code.Code.TheVariants.{ConfigureRequest, ConfigureAck, ConfigureNak, ConfigureReject}
use Rattle.ppp_packet.specs.Code.{code_number}
use Rattle.ppp_packet.specs.Options.{list_of}
use Rattle.ppp_packet.specs.Packet.{packet_octets}
use Rattle.ppp_auto.specs.declared.answer.Answer.TheInside.{Inside}
use Rattle.ppp_auto.specs.declared.outbox.TheConstants.{MOST_REST}
use Rattle.ppp_auto.specs.Packet.{Packet, Request, Ack, Nak, Reject, Other, octets_of}
use Rattle.ppp_auto.specs.Taken.{four_octets}

-- a Magic-Number goes before an Echo-Reply's data
abbrev pub magic_octets : Option ℕ → List ℕ
magic_octets None = []
magic_octets (Some magic) = four_octets magic

-- what stands behind the header
abbrev pub data_of : Inside → List ℕ
data_of a = magic_octets a.magic ++ a.rest.now

-- the packet of that code with these octets behind the header, whose options can be read
abbrev pub packet_as : Code → ℕ → List ℕ → Packet
packet_as ConfigureRequest id octets = Request id (list_of octets)
packet_as ConfigureAck id octets = Ack id (list_of octets)
packet_as ConfigureNak id octets = Nak id (list_of octets)
packet_as ConfigureReject id octets = Reject id (list_of octets)
packet_as code id octets = Other (code_number code) id octets

abbrev pub answer_seen : Inside → Packet
answer_seen a = packet_as a.code a.id (data_of a)

-- its options can be read, and it has at most 1,500 octets
pub record IsAnswer (a : Inside) : Type 0 where
  pub octets : octets_of (answer_seen a) ≡ packet_octets (code_number a.code) a.id (data_of a)
  pub short : length (data_of a) ≤ MOST_REST
