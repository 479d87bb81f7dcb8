-- Packets (RFC 1661 section 5).
use Rattle.std.specs.Prelude.{◌≡◌, ℕ, ◌+◌, ◌-◌, ◌*◌, ◌/◌, ◌%◌, ◌||◌, nat_lt, if◌then◌else◌, List, [], ◌∷◌, ◌++◌, length, take, Option, Some, None}

-- a number in two octets, the high one first
abbrev pub two_octets : ℕ → List ℕ
two_octets n = (n / 256) ∷ (n % 256) ∷ []

-- a packet is its Code, its Identifier, its Length, which counts these four octets too, and the rest
abbrev pub packet_octets : ℕ → ℕ → List ℕ → List ℕ
packet_octets code id rest = (code ∷ id ∷ two_octets (4 + length rest)) ++ rest

-- these octets are this packet, and padding behind its Length
abbrev pub IsPacket : ℕ → ℕ → List ℕ → List ℕ → Type 0
IsPacket code id rest bytes = (padding : List ℕ) × (bytes ≡ packet_octets code id rest ++ padding)

pub record RawPacket : Type 0 where
  pub code : ℕ
  pub id : ℕ
  pub rest : List ℕ

-- a packet with this Code, this Identifier and this rest
abbrev pub raw_packet : ℕ → ℕ → List ℕ → RawPacket
raw_packet code id rest = record { code = code; id = id; rest = rest }

-- The packet that octets are, as a reader finds it: None where the header isn't whole, or its Length is below 4 or above what came.
abbrev pub raw_packet_of : List ℕ → Option RawPacket
raw_packet_of (code ∷ id ∷ high ∷ low ∷ rest) =
    if nat_lt (high * 256 + low) 4 || nat_lt (length rest) (high * 256 + low - 4)
    then None
    else Some (raw_packet code id (take (high * 256 + low - 4) rest))
raw_packet_of bytes = None
