-- Fragments, and the packets that they are cut from and make (RFC 1990 section 3).
use Rattle.std.specs.Prelude.{◌≡◌, ℕ, zero, suc, Bool, true, false, if◌then◌else◌, nat_le, List, [], ◌∷◌, ◌++◌, length, take, drop, ◌⊎◌}

-- the B bit, the E bit, and what stands behind the header
pub record Fragment : Type 0 where
  pub begins : Bool
  pub ends : Bool
  pub payload : List ℕ

-- a fragment with its number
pub record Numbered : Type 0 where
  pub number : ℕ
  pub fragment : Fragment

-- ---- what fragments make

-- the octets of the packet that a fragment belongs to, where these came before it
abbrev pub joined : List ℕ → Fragment → List ℕ
joined begun f = if f.begins then f.payload else begun ++ f.payload

-- the packet that a fragment ends, and what has begun after it
abbrev pub ended : List ℕ → Fragment → List (List ℕ)
ended begun f = if f.ends then joined begun f ∷ [] else []

abbrev pub begun_after : List ℕ → Fragment → List ℕ
begun_after begun f = if f.ends then [] else joined begun f

-- the packets that end in a list of fragments, where `begun` came before it of the first
abbrev pub packets : List ℕ → List Fragment → List (List ℕ)
packets begun [] = []
packets begun (f ∷ fs) = ended begun f ++ packets (begun_after begun f) fs

-- ---- what a packet is cut into

-- Each piece has `size` octets but the last, which has the rest; so has the one after `most` pieces.
abbrev pub pieces : ℕ → ℕ → Bool → List ℕ → List Fragment
pieces zero size begins octets = record { begins = begins; ends = true; payload = octets } ∷ []
pieces (suc most) size begins octets =
    if nat_le (length octets) size then record { begins = begins; ends = true; payload = octets } ∷ []
    else record { begins = begins; ends = false; payload = take size octets } ∷ pieces most size false (drop size octets)

-- the fragments of a packet: the first alone begins it, the last alone ends it
abbrev pub fragments_of : ℕ → List ℕ → List Fragment
fragments_of size packet = pieces (length packet) size true packet

-- ---- what was sent

-- some of these packets, each whole and at most once, in their order
abbrev pub AreSome : List (List ℕ) → List (List ℕ) → Type 0
AreSome [] sent = Unit {0}
AreSome (p ∷ ps) [] = ⊥
AreSome (p ∷ ps) (q ∷ qs) = ((p ≡ q) × AreSome ps qs) ⊎ AreSome (p ∷ ps) qs
