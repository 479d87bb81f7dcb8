-- Frames under way on a link: octets with a mark, and the packet of a control protocol that they carry. They are read with both
-- short headers, whatever is granted at the moment, so what is under way stays the same while grants change.
use Rattle.std.specs.Prelude.{ℕ, if◌then◌else◌, List, [], ◌∷◌, Option, Some, None, option_map}
use Rattle.std.specs.List.{flat_map}
use Rattle.ppp_packet.specs.declared.proto.Proto.{Proto}
use Rattle.ppp_packet.specs.Proto.{proto_of}
use Rattle.ppp_auto.specs.Packet.{Packet, packet_of}
use Rattle.ppp_duet.specs.Duet.{Marked}
use Rattle.ppp_frame.specs.Header.{Read}
use Rattle.ppp_trunk.specs.Orders.{is_same, read_in}
use Rattle.ppp_party.specs.Ledger.{Ledger, Ledgers, ledger_at, ledgers_by, noted, stamp}

pub record Frame : Type 0 where
  pub mark : ℕ
  pub octets : List ℕ

-- ---- what a frame carries

pub record Carried : Type 0 where
  pub proto : Proto
  pub packet : Packet

abbrev pub carried_as : Option Proto → List ℕ → Option Carried
carried_as None info = None
carried_as (Some p) info = option_map (λ packet. record { proto = p; packet = packet }) (packet_of info)

abbrev pub carried_by : Option Read → Option Carried
carried_by None = None
carried_by (Some read) = carried_as (proto_of read.protocol) read.info

unfoldable pub carried : List ℕ → Option Carried
carried octets = carried_by (read_in octets)

-- the packet of a protocol, if it is of that
abbrev pub packet_for : Proto → Option Carried → List Packet
packet_for p None = []
packet_for p (Some c) = if is_same p c.proto then c.packet ∷ [] else []

abbrev pub packets_for : Proto → List (List ℕ) → List Packet
packets_for p frames = flat_map (λ octets. packet_for p (carried octets)) frames

-- the packets of a protocol under way, with their marks
abbrev pub marked_for : ℕ → List Packet → List Marked
marked_for mark [] = []
marked_for mark (p ∷ ps) = record { mark = mark; packet = p } ∷ marked_for mark ps

abbrev pub seen : Proto → Frame → List Marked
seen p f = marked_for f.mark (packet_for p (carried f.octets))

abbrev pub only : Proto → List Frame → List Marked
only p frames = flat_map (seen p) frames

-- ---- what is sent

abbrev pub noted_if : Ledger → List Packet → Ledger
noted_if g [] = g
noted_if g (packet ∷ more) = noted g packet

-- what is noted of a frame that goes out
abbrev pub noted_by : Ledgers → Option Carried → Ledgers
noted_by gs c = ledgers_by (λ p. noted_if (ledger_at gs p) (packet_for p c))

-- The mark of a frame that goes out in answer to one of that mark: its packet's. One without a packet of a control protocol, as
-- those of BAP are, has that mark itself.
abbrev pub mark_by : Ledgers → ℕ → Option Carried → ℕ
mark_by gs mark None = mark
mark_by gs mark (Some c) = (stamp (ledger_at gs c.proto) mark c.packet).mark

-- frames that go out, one behind the other: what is noted of them, and how they are marked
abbrev pub noted_frames : Ledgers → List (List ℕ) → Ledgers
noted_frames gs [] = gs
noted_frames gs (octets ∷ more) = noted_frames (noted_by gs (carried octets)) more

abbrev pub marked_frames : Ledgers → ℕ → List (List ℕ) → List Frame
marked_frames gs mark [] = []
marked_frames gs mark (octets ∷ more) =
    record { mark = mark_by gs mark (carried octets); octets = octets } ∷ marked_frames (noted_by gs (carried octets)) mark more
