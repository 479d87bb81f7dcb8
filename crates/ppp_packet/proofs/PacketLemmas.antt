-- Facts on packets: what is written reads as the same packet, whatever padding follows.
use Rattle.std.proofs.Common.{◌≡◌, ℕ, ◌+◌, ◌-◌, ◌*◌, ◌/◌, ◌%◌, ◌<◌, ◌≤◌, ◌⊎◌, inl, inr, Bool, true, false, List, [], ◌∷◌, ◌++◌, length, take, drop, get_or, refl, subst, ◌∙◌, ap, arith, length-append}
use Rattle.std.specs.Prelude.{Some, None, ◌||◌, nat_lt, if◌then◌else◌, All}
use Rattle.std.proofs.lemmas.List.{take_at, take-append-drop, length-take-le}
use Rattle.std.proofs.lemmas.Bool.{le-ltb, lt-ltb, ltb-false}
use Rattle.byteorder.specs.Endian.{big_number}
use Rattle.ppp_packet.specs.Packet.{packet_octets, IsPacket, RawPacket, raw_packet, raw_packet_of}

or_true : (a : Bool) → (a || true) ≡ true
or_true false = refl
or_true true = refl

pub raw_packet_of-packet_octets : (code id : ℕ) (rest padding : List ℕ) →
    raw_packet_of (packet_octets code id rest ++ padding) ≡ Some (raw_packet code id rest)
raw_packet_of-packet_octets code id rest padding =
    let size : (4 + length rest) / 256 * 256 + (4 + length rest) % 256 ≡ 4 + length rest = omega arith in
    let whole : length rest ≡ 4 + length rest - 4 = omega arith in
    rw (size, le-ltb (4 + length rest) 4 (omega arith), le-ltb (length (rest ++ padding)) (4 + length rest - 4) (omega (arith, length-append rest padding)), take_at rest padding (4 + length rest - 4) whole) refl

pub raw_packet_of-IsPacket : (code id : ℕ) (rest bytes : List ℕ) → IsPacket code id rest bytes →
    raw_packet_of bytes ≡ Some (raw_packet code id rest)
raw_packet_of-IsPacket code id rest bytes is = ap raw_packet_of is.1 ∙ raw_packet_of-packet_octets code id rest is.0

pub raw_packet_of-short : (bytes : List ℕ) → length bytes < 4 → raw_packet_of bytes ≡ None
raw_packet_of-short [] short = refl
raw_packet_of-short (a ∷ []) short = refl
raw_packet_of-short (a ∷ b ∷ []) short = refl
raw_packet_of-short (a ∷ b ∷ c ∷ []) short = refl
raw_packet_of-short (a ∷ b ∷ c ∷ d ∷ rest) short = absurd (omega arith)

pub raw_packet_of-misfit : (code id high low size : ℕ) (rest : List ℕ) → size ≡ high * 256 + low → (size < 4) ⊎ (4 + length rest < size) →
    raw_packet_of (code ∷ id ∷ high ∷ low ∷ rest) ≡ None
raw_packet_of-misfit code id high low size rest is (inl low_size) = rw (← is, lt-ltb size 4 low_size) refl
raw_packet_of-misfit code id high low size rest is (inr high_size) = rw (← is, lt-ltb (length rest) (size - 4) (omega arith), or_true (nat_lt size 4)) refl

pub raw_packet_of-whole : (code id high low size : ℕ) (rest : List ℕ) → size ≡ high * 256 + low → 4 ≤ size → size ≤ 4 + length rest →
    raw_packet_of (code ∷ id ∷ high ∷ low ∷ rest) ≡ Some (raw_packet code id (take (size - 4) rest))
raw_packet_of-whole code id high low size rest is least room = rw (← is, le-ltb size 4 least, le-ltb (length rest) (size - 4) (omega arith)) refl

-- a Length of two octets
pub IsPacket-whole : (code id high low size : ℕ) (rest : List ℕ) → size ≡ high * 256 + low → low < 256 → 4 ≤ size → size ≤ 4 + length rest →
    IsPacket code id (take (size - 4) rest) (code ∷ id ∷ high ∷ low ∷ rest)
IsPacket-whole code id high low size rest is octet least room =
    let whole : 4 + length (take (size - 4) rest) ≡ size = omega (arith, length-take-le (size - 4) rest (omega arith)) in
    let up : size / 256 ≡ high = omega arith in
    let down : size % 256 ≡ low = omega arith in
    (drop (size - 4) rest, rw (whole, up, down, take-append-drop (size - 4) rest) refl)

-- the packet as a reader of the octets finds it: the header apart from the data
pub IsPacket-split : (bytes header back : List ℕ) (size : ℕ) → 4 ≤ length bytes → header ≡ take 4 bytes → back ≡ drop 4 bytes →
    size ≡ big_number 2 (take (length header - 2) (drop 2 header)) →
    get_or bytes 3 0 < 256 → 4 ≤ size → size ≤ length bytes →
    IsPacket (get_or header 0 0) (get_or header 1 0) (take (size - 4) back) bytes
IsPacket-split [] header back size whole front behind is octet least room = absurd (omega arith)
IsPacket-split (a ∷ []) header back size whole front behind is octet least room = absurd (omega arith)
IsPacket-split (a ∷ b ∷ []) header back size whole front behind is octet least room = absurd (omega arith)
IsPacket-split (a ∷ b ∷ c ∷ []) header back size whole front behind is octet least room = absurd (omega arith)
IsPacket-split (a ∷ b ∷ c ∷ d ∷ rest) header back size whole front behind is octet least room =
    let is_number : size ≡ big_number 2 (take (length (a ∷ b ∷ c ∷ d ∷ []) - 2) (drop 2 (a ∷ b ∷ c ∷ d ∷ []))) = rw front at is in
    let is_size : size ≡ c * 256 + d = omega (arith, is_number) in
    rw (front, behind) (IsPacket-whole a b c d size rest is_size octet least (omega arith))

or_false : (a b : Bool) → (a || b) ≡ false → (a ≡ false) × (b ≡ false)
or_false false b e = (refl, e)
or_false true b e = absurd (cc)

read_step : (code id high low : ℕ) (rest : List ℕ) (misfit : Bool) (p : RawPacket) → low < 256 →
    (nat_lt (high * 256 + low) 4 || nat_lt (length rest) (high * 256 + low - 4)) ≡ misfit →
    (if misfit then None else Some (raw_packet code id (take (high * 256 + low - 4) rest))) ≡ Some p →
    IsPacket p.code p.id p.rest (code ∷ id ∷ high ∷ low ∷ rest)
read_step code id high low rest true p octet is same = absurd (cc)
read_step code id high low rest false p octet is same =
    let tests = or_false (nat_lt (high * 256 + low) 4) (nat_lt (length rest) (high * 256 + low - 4)) is in
    let least : 4 ≤ high * 256 + low = ltb-false (high * 256 + low) 4 tests.0 in
    let room : high * 256 + low - 4 ≤ length rest = ltb-false (length rest) (high * 256 + low - 4) tests.1 in
    let found : raw_packet code id (take (high * 256 + low - 4) rest) ≡ p = cc in
    let whole : IsPacket code id (take (high * 256 + low - 4) rest) (code ∷ id ∷ high ∷ low ∷ rest) =
    IsPacket-whole code id high low (high * 256 + low) rest refl octet least (omega arith) in
    let P : RawPacket → Type 0 = λ q. IsPacket q.code q.id q.rest (code ∷ id ∷ high ∷ low ∷ rest) in
    subst P found whole

-- what reads as a packet is that packet
pub IsPacket-raw_packet_of : (bytes : List ℕ) (p : RawPacket) → All (λ octet. octet < 256) bytes → raw_packet_of bytes ≡ Some p → IsPacket p.code p.id p.rest bytes
IsPacket-raw_packet_of [] p all same = absurd (cc)
IsPacket-raw_packet_of (a ∷ []) p all same = absurd (cc)
IsPacket-raw_packet_of (a ∷ b ∷ []) p all same = absurd (cc)
IsPacket-raw_packet_of (a ∷ b ∷ c ∷ []) p all same = absurd (cc)
IsPacket-raw_packet_of (code ∷ id ∷ high ∷ low ∷ rest) p all same =
    read_step code id high low rest _ p (all 3 0 (omega arith)) refl same
