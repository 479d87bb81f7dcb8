-- What a frame carries, in short: the protocol of its packet, and its kind.
use Rattle.std.specs.Prelude.{Bool, true, false, ◌&&◌, Option, Some, None, option_map}
use Rattle.ppp_auto.specs.Packet.{Packet, Request, Ack, Nak, Reject, Other}
use Rattle.ppp_packet.specs.declared.proto.Proto.{Proto}
use Rattle.ppp_trunk.specs.Orders.{is_same}
use Rattle.ppp_party.specs.Frame.{Carried}
use Rattle.ppp_party.specs.declared.about.About.{About}
use Rattle.ppp_party.specs.declared.about.PacketKind.{PacketKind}
use Rattle.ppp_party.specs.declared.about.PacketKind.TheVariants as kind

abbrev pub kind_of : Packet → PacketKind
kind_of (Request id options) = kind.Request
kind_of (Ack id options) = kind.Answer
kind_of (Nak id options) = kind.Answer
kind_of (Reject id options) = kind.Answer
kind_of (Other code id octets) = kind.Other

abbrev pub about_carried : Carried → About
about_carried c = record { proto = c.proto; kind = kind_of c.packet }

abbrev pub about_of : Option Carried → Option About
about_of c = option_map about_carried c

-- whether that is a request, or an answer
abbrev pub is_request : PacketKind → Bool
is_request kind.Request = true
is_request kind = false

abbrev pub is_answer : PacketKind → Bool
is_answer kind.Answer = true
is_answer kind = false

-- whether it is a request of that protocol, or an answer
abbrev pub requests_of : Proto → Option About → Bool
requests_of p None = false
requests_of p (Some about) = is_same p about.proto && is_request about.kind

abbrev pub answers_of : Proto → Option About → Bool
answers_of p None = false
answers_of p (Some about) = is_same p about.proto && is_answer about.kind
