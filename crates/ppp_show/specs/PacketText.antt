-- What a control protocol's packet is (RFC 1661 section 5).
use Rattle.std.specs.Prelude.{ℕ, List, [], ◌++◌, Option, Some, None, codes}
use Rattle.std.specs.Fmt.{decimal}
use Rattle.ppp_packet.specs.Packet.{RawPacket, raw_packet_of}
use Rattle.ppp_packet.specs.Proto.{proto_of}
use Rattle.ppp_packet.specs.declared.code.Code.{Code}
use Rattle.ppp_packet.specs.declared.proto.Proto.{Proto}
use Rattle.ppp_show.specs.CodeName.{code_text, code_under}
use Rattle.ppp_show.specs.RestText.{rest_text}

-- ` NAME id N`, and what stands behind the header
abbrev pub text_of_packet : Option Code → RawPacket → List ℕ
text_of_packet code packet =
    codes " " ++ code_text packet.code code ++ codes " id " ++ decimal packet.id ++ rest_text code packet.rest

-- a packet of a protocol: nothing where the protocol is no control protocol, or no packet was read
abbrev pub text_under : Option Proto → Option RawPacket → List ℕ
text_under None packet = []
text_under (Some proto) None = []
text_under (Some proto) (Some packet) = text_of_packet (code_under proto packet.code) packet

abbrev pub packet_text : ℕ → List ℕ → List ℕ
packet_text protocol info = text_under (proto_of protocol) (raw_packet_of info)
