-- Packets of the automaton (RFC 1661 section 5): codes 1 to 4 carry options, the others octets.
use Rattle.std.specs.Prelude.{ℕ, ◌==◌, if◌then◌else◌, List, Option, Some}
use Rattle.std.specs.Option.{option_map, option_and_then}
use Rattle.ppp_packet.specs.declared.code.Code.{Code}
use Rattle.ppp_packet.specs.declared.code.Code.TheVariants.{ConfigureRequest, ConfigureAck, ConfigureNak, ConfigureReject}
use Rattle.ppp_packet.specs.Code.{code_number}
use Rattle.ppp_packet.specs.ConfigOption.{ConfigOption}
use Rattle.ppp_packet.specs.Options.{written, options_of}
use Rattle.ppp_packet.specs.Packet.{RawPacket, raw_packet_of, packet_octets}

pub data Packet : Type 0 where
  Request : (id : ℕ) (options : List ConfigOption) → Packet
  Ack : (id : ℕ) (options : List ConfigOption) → Packet
  Nak : (id : ℕ) (options : List ConfigOption) → Packet
  Reject : (id : ℕ) (options : List ConfigOption) → Packet
  Other : (code id : ℕ) (octets : List ℕ) → Packet

-- the octets of a packet of that code
abbrev pub coded_octets : Code → ℕ → List ℕ → List ℕ
coded_octets code id rest = packet_octets (code_number code) id rest

-- a packet in octets, without padding
abbrev pub octets_of : Packet → List ℕ
octets_of (Request id options) = coded_octets ConfigureRequest id (written options)
octets_of (Ack id options) = coded_octets ConfigureAck id (written options)
octets_of (Nak id options) = coded_octets ConfigureNak id (written options)
octets_of (Reject id options) = coded_octets ConfigureReject id (written options)
octets_of (Other code id octets) = packet_octets code id octets

-- the packet of a header and what follows it: None where the options of codes 1 to 4 can't be read
abbrev pub packet_with : RawPacket → Option Packet
packet_with raw =
    if raw.code == code_number ConfigureRequest then option_map (λ options. Request raw.id options) (options_of raw.rest)
    else if raw.code == code_number ConfigureAck then option_map (λ options. Ack raw.id options) (options_of raw.rest)
    else if raw.code == code_number ConfigureNak then option_map (λ options. Nak raw.id options) (options_of raw.rest)
    else if raw.code == code_number ConfigureReject then option_map (λ options. Reject raw.id options) (options_of raw.rest)
    else Some (Other raw.code raw.id raw.rest)

-- the packet that octets are: None where they can't be read
abbrev pub packet_of : List ℕ → Option Packet
packet_of octets = option_and_then packet_with (raw_packet_of octets)
