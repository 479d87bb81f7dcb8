-- The fields of an event line, read one after the other.
use Rattle.std.specs.Prelude.{ℕ, ◌≤◌, nat_le, if◌then◌else◌, List, [], ◌∷◌, Result, Ok, Err, bytes_eq, codes}
use Rattle.std.specs.Option.{ok_or}
use Rattle.ppp_packet.specs.declared.proto.Proto.{Proto}
use Rattle.ppp_packet.specs.declared.proto.Proto.TheVariants.{Lcp, Ip, Ipv6, Osi, Mpls, Bacp}
use Rattle.ppp_packet.specs.Proto.{proto_name}
use Rattle.ppp_text.specs.Numbers.{number_in}
use Rattle.ppp_script.specs.declared.end.End.{End}
use Rattle.ppp_script.specs.declared.end.End.TheVariants.{A, B}
use Rattle.ppp_script.specs.declared.field.TheConstants.{MOST_LINKS}
use Rattle.ppp_script.specs.declared.line_why.LineWhy.{LineWhy}
use Rattle.ppp_script.specs.declared.line_why.LineWhy.TheVariants as why
use Rattle.ppp_script.specs.Results.{◌>>=◌}

-- the first of these fields, and those behind it
abbrev pub next_field : List (List ℕ) → Result (List ℕ × List (List ℕ)) LineWhy
next_field [] = Err why.Event
next_field (field ∷ behind) = Ok (field, behind)

-- no field is left
abbrev pub no_more : List (List ℕ) → Result (Unit {0}) LineWhy
no_more [] = Ok tt
no_more (field ∷ behind) = Err why.Event

-- the number that a field is, within these bounds
abbrev pub number_field : ℕ → ℕ → List ℕ → Result ℕ LineWhy
number_field least most field = ok_or (number_in least most field) why.Event

-- an end
abbrev pub end_in : List ℕ → Result End LineWhy
end_in field =
    if bytes_eq field (codes "a") then Ok A
    else if bytes_eq field (codes "b") then Ok B
    else Err why.Event

-- a link: a number from 1 to 255, refused as Link where it is above the number of links that are configured
unfoldable pub link_in : ℕ → List ℕ → Result ℕ LineWhy
link_in links field = do
  link ← number_field 1 MOST_LINKS field
  if nat_le link links then Ok link else Err why.Link

-- the link that the first of these fields is, and those behind it
unfoldable pub next_link : ℕ → List (List ℕ) → Result (ℕ × List (List ℕ)) LineWhy
next_link links fields = do
  first ← next_field fields
  link ← link_in links first.0
  Ok (link, first.1)

-- a link, where so many are configured
abbrev pub IsLink : ℕ → ℕ → Type 0
IsLink links link = (1 ≤ link) × (link ≤ links)

-- a control protocol, by its name
abbrev pub protocol_in : List ℕ → Result Proto LineWhy
protocol_in field =
    if bytes_eq field (proto_name Lcp) then Ok Lcp
    else if bytes_eq field (proto_name Ip) then Ok Ip
    else if bytes_eq field (proto_name Ipv6) then Ok Ipv6
    else if bytes_eq field (proto_name Osi) then Ok Osi
    else if bytes_eq field (proto_name Mpls) then Ok Mpls
    else if bytes_eq field (proto_name Bacp) then Ok Bacp
    else Err why.Event

-- `P`, and no more
unfoldable pub last_protocol : List (List ℕ) → Result Proto LineWhy
last_protocol fields = do
  first ← next_field fields
  protocol ← protocol_in first.0
  nothing ← no_more first.1
  Ok protocol

-- the one field that is left
abbrev pub last_field : List (List ℕ) → Result (List ℕ) LineWhy
last_field fields = do
  first ← next_field fields
  nothing ← no_more first.1
  Ok first.0
