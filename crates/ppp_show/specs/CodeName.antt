-- The names of packets.
use Rattle.std.specs.Prelude.{ℕ, nat_lt, if◌then◌else◌, List, ◌++◌, Option, Some, None, codes}
use Rattle.std.specs.Fmt.{decimal}
use Rattle.ppp_packet.specs.Code.{code_name, code_of}
use Rattle.ppp_packet.specs.declared.code.Code.{Code}
use Rattle.ppp_packet.specs.declared.proto.Proto.{Proto}
use Rattle.ppp_packet.specs.declared.proto.Proto.TheVariants.{Lcp, Ip, Ipv6, Osi, Mpls, Bacp}

-- the codes that every control protocol has: 1 to 7 (RFC 1661 section 5)
abbrev pub common_code : ℕ → Option Code
common_code n = if nat_lt 7 n then None else code_of n

-- the code that a number is in a protocol's packets: 8 to 11 are LCP's alone (RFC 1661 sections 5.7 to 5.9)
abbrev pub code_under : Proto → ℕ → Option Code
code_under Lcp n = code_of n
code_under Ip n = common_code n
code_under Ipv6 n = common_code n
code_under Osi n = common_code n
code_under Mpls n = common_code n
code_under Bacp n = common_code n

-- a code's name, or `Code-N` where the number is no code
abbrev pub code_text : ℕ → Option Code → List ℕ
code_text n (Some code) = code_name code
code_text n None = codes "Code-" ++ decimal n
