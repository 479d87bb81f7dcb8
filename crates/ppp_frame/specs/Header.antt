-- Address, control and protocol before the information (RFC 1662 section 3.1, RFC 1661 sections 6.5 and 6.6).
use Rattle.std.specs.Prelude.{◌≡◌, ◌⊎◌, ℕ, ◌+◌, ◌*◌, ◌/◌, ◌%◌, ◌≤◌, ◌==◌, ◌&&◌, ◌||◌, nat_lt, Bool, true, false, not, if◌then◌else◌, List, [], ◌∷◌, ◌++◌, length, drop, Option, Some, None, option_and_then}
use Rattle.ppp_frame.specs.declared.form.Form.{Form}
use Rattle.ppp_frame.specs.declared.header.Header.{Header}
use Rattle.ppp_frame.specs.declared.header.TheConstants.{ALL_STATIONS, UNNUMBERED, LCP}

-- the octets begin with address and control
abbrev pub BeginsAddressed : List ℕ → Type 0
BeginsAddressed octets = (rest : List ℕ) × (octets ≡ ALL_STATIONS ∷ UNNUMBERED ∷ rest)

-- Address and control stand before the rest. Where they may be left out, they may be missing before octets that they aren't.
abbrev pub Addressed : Bool → List ℕ → List ℕ → Type 0
Addressed ac rest octets =
    (octets ≡ ALL_STATIONS ∷ UNNUMBERED ∷ rest)
    ⊎ ((ac ≡ true) × (octets ≡ rest) × (BeginsAddressed rest → ⊥))

-- The protocol stands before the information, in two octets. Where it may be short, the first of these is even, and one odd
-- octet is a protocol too.
abbrev pub Numbered : Bool → ℕ → List ℕ → List ℕ → Type 0
Numbered pf protocol info octets =
    ((high : ℕ) × (low : ℕ) × (octets ≡ high ∷ low ∷ info) × (protocol ≡ high * 256 + low)
    × (pf ≡ true → high % 2 ≡ 0))
    ⊎ ((pf ≡ true) × (octets ≡ protocol ∷ info) × (protocol % 2 ≡ 1))

-- these octets are the protocol and the information, with the header before them
abbrev pub Headed : Bool → Bool → ℕ → List ℕ → List ℕ → Type 0
Headed ac pf protocol info octets =
    (rest : List ℕ) × Addressed ac rest octets × Numbered pf protocol info rest × (2 ≤ length octets)

-- ---- what a sender writes

-- Address and control are left out where that was granted, but never of LCP.
unfoldable pub leaves_out : Form → ℕ → Bool
leaves_out form protocol = form.ac && not (protocol == LCP) && not (protocol / 256 == ALL_STATIONS)

-- nothing is left
abbrev pub is_none_left : List ℕ → Bool
is_none_left [] = true
is_none_left (x ∷ xs) = not true

-- the protocol is written in one octet
unfoldable pub is_short : Form → ℕ → List ℕ → Bool
is_short form protocol info =
    form.pf && nat_lt protocol 256 && protocol % 2 == 1 && not (protocol == ALL_STATIONS)
    && (not (leaves_out form protocol) || not (is_none_left info))

abbrev pub address_octets : Bool → List ℕ
address_octets left_out = if left_out then [] else ALL_STATIONS ∷ UNNUMBERED ∷ []

abbrev pub protocol_octets : Bool → ℕ → List ℕ
protocol_octets short protocol = if short then protocol ∷ [] else (protocol / 256) ∷ (protocol % 256) ∷ []

abbrev pub header_of : Form → ℕ → List ℕ → List ℕ
header_of form protocol info =
    address_octets (leaves_out form protocol) ++ protocol_octets (is_short form protocol info) protocol

abbrev pub headed : Form → ℕ → List ℕ → List ℕ
headed form protocol info = header_of form protocol info ++ info

-- what is sent of this protocol is read back: no octet is taken for a short protocol
abbrev pub ReadsBack : Form → ℕ → Type 0
ReadsBack form protocol = (form.pf ≡ false) ⊎ (protocol / 256 % 2 ≡ 0)

-- ---- what a reader finds

pub record Read : Type 0 where
  pub protocol : ℕ
  pub info : List ℕ

abbrev pub reads : ℕ → List ℕ → Read
reads protocol info = record { protocol = protocol; info = info }

-- what stands behind address and control
unfoldable pub behind_address : Bool → List ℕ → Option (List ℕ)
behind_address ac (a ∷ c ∷ rest) =
    if a == ALL_STATIONS && c == UNNUMBERED then Some rest else if ac then Some (a ∷ c ∷ rest) else None
behind_address ac octets = None

-- the protocol in two octets
abbrev pub read_two : ℕ → List ℕ → Option Read
read_two high [] = None
read_two high (low ∷ rest) = Some (reads (high * 256 + low) rest)

-- the protocol and the information
unfoldable pub behind_protocol : Bool → List ℕ → Option Read
behind_protocol pf [] = None
behind_protocol pf (x ∷ rest) = if pf && x % 2 == 1 then Some (reads x rest) else read_two x rest

abbrev pub read_of : Bool → Bool → List ℕ → Option Read
read_of ac pf octets = option_and_then (behind_protocol pf) (behind_address ac octets)

-- the header that was found in these octets, and what is read behind it
abbrev pub ReadsAs : List ℕ → Option Header → Option Read → Type 0
ReadsAs octets None read = read ≡ None
ReadsAs octets (Some h) read = (h.size ≤ length octets) × (read ≡ Some (reads h.protocol (drop h.size octets)))
