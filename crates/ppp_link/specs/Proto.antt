-- What the protocol of a frame is to a link.
use Rattle.std.specs.Prelude.{ℕ, ◌==◌, ◌||◌, if◌then◌else◌, List, [], ◌∷◌, Option, Some, None}
use Rattle.ppp_packet.specs.declared.proto.Proto.{Proto}
use Rattle.ppp_packet.specs.declared.proto.Proto.TheVariants.{Ip, Ipv6, Osi, Mpls}

-- the protocols that begin once LCP is Opened, in order; BACP isn't among them
abbrev pub nets : List Proto
nets = Ip ∷ Ipv6 ∷ Osi ∷ Mpls ∷ []

-- The control protocol that a protocol of data belongs to: IPv4 0021, IPv6 0057, OSI 0023, MPLS 0281 and 0283
-- (RFC 3032 section 4.3).
abbrev pub control_of : ℕ → Option Proto
control_of number =
    if number == 0x0021 then Some Ip
    else if number == 0x0057 then Some Ipv6
    else if number == 0x0023 then Some Osi
    else if (number == 0x0281) || (number == 0x0283) then Some Mpls
    else None
