-- The control protocols: their numbers in a frame, and their names in scripts and reports.
use Rattle.std.specs.Prelude.{ℕ, ◌==◌, if◌then◌else◌, List, Option, Some, None, Result, codes}
use Rattle.std.specs.Option.{ok_or}
use Rattle.ppp_packet.specs.declared.proto.Proto.{Proto}
use Rattle.ppp_packet.specs.declared.proto.Proto.TheVariants.{Lcp, Ip, Ipv6, Osi, Mpls, Bacp}
use Rattle.ppp_packet.specs.declared.proto.UnknownProto.{UnknownProto}

-- c021, 8021, 8057, 8023, 8281 and c02b
abbrev pub proto_number : Proto → ℕ
proto_number Lcp = 49185
proto_number Ip = 32801
proto_number Ipv6 = 32855
proto_number Osi = 32803
proto_number Mpls = 33409
proto_number Bacp = 49195

-- the protocol of a number: None where it is no control protocol's
abbrev pub proto_of : ℕ → Option Proto
proto_of n =
    if n == proto_number Lcp then Some Lcp
    else if n == proto_number Ip then Some Ip
    else if n == proto_number Ipv6 then Some Ipv6
    else if n == proto_number Osi then Some Osi
    else if n == proto_number Mpls then Some Mpls
    else if n == proto_number Bacp then Some Bacp
    else None

-- what reading a number as a protocol answers
abbrev pub read_proto : ℕ → Result Proto UnknownProto
read_proto n = ok_or (proto_of n) (record { 0 = n })

abbrev pub proto_name : Proto → List ℕ
proto_name Lcp = codes "lcp"
proto_name Ip = codes "ip"
proto_name Ipv6 = codes "ipv6"
proto_name Osi = codes "osi"
proto_name Mpls = codes "mpls"
proto_name Bacp = codes "bacp"
