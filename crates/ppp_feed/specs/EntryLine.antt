-- The lines of what a station sends and tells.
use Rattle.std.specs.Prelude.{ℕ, ◌==◌, if◌then◌else◌, List, [], ◌++◌, Option, Some, None, codes}
use Rattle.std.specs.Fmt.{decimal}
use Rattle.std.specs.List.{flat_map}
use Rattle.hex.specs.Hex.{encode_lower}
use Rattle.ppp_trunk.specs.StationOut.{Asked, Dial, Entry, Got, Hang, Push}

-- the class, or `-` where the datagram came plain, in no fragment
abbrev pub class_text : Option ℕ → List ℕ
class_text (Some class) = decimal class
class_text None = codes "-"

-- IPv4, IPv6, and the only other protocol that is handed up, MPLS
abbrev pub protocol_text : ℕ → List ℕ
protocol_text protocol =
    if protocol == 0x0021 then codes "ip"
    else if protocol == 0x0057 then codes "ipv6"
    else codes "mpls"

-- `push L HEX`, `got C P HEX`, `hang L` or `dial L`; no line of a feed asks
abbrev pub entry_line : Entry → List ℕ
entry_line (Push link octets) = codes "push " ++ decimal link ++ codes " " ++ encode_lower octets ++ codes "\n"
entry_line (Got class protocol octets) =
    codes "got " ++ class_text class ++ codes " " ++ protocol_text protocol ++ codes " " ++ encode_lower octets ++ codes "\n"
entry_line (Hang link) = codes "hang " ++ decimal link ++ codes "\n"
entry_line (Dial link) = codes "dial " ++ decimal link ++ codes "\n"
entry_line (Asked answer) = []

abbrev pub entry_lines : List Entry → List ℕ
entry_lines entries = flat_map entry_line entries
