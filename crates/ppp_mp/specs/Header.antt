-- The header of a fragment (RFC 1990 section 3), with a class (RFC 2686 section 4): four octets in the long form, two in
-- the short one.
use Rattle.std.specs.Prelude.{ℕ, ◌+◌, ◌*◌, ◌/◌, ◌%◌, ◌<◌, Bool, true, false, nat_le, List, [], ◌∷◌, ◌++◌, Option, Some, None}
use Rattle.ppp_mp.specs.Fragments.{Fragment}
use Rattle.ppp_mp.specs.declared.header.Header.{Header}
use Rattle.ppp_mp.specs.declared.limits.TheConstants.{LONG_CLASSES, LONG_SPACE, SHORT_CLASSES, SHORT_SPACE}

-- how many numbers and classes there are in a form
abbrev pub space_of : Bool → ℕ
space_of true = SHORT_SPACE
space_of false = LONG_SPACE

abbrev pub classes_of : Bool → ℕ
classes_of true = SHORT_CLASSES
classes_of false = LONG_CLASSES

-- how many octets it has
abbrev pub size_of : Bool → ℕ
size_of true = 2
size_of false = 4

-- ---- reading: B and E are the two high bits

abbrev pub is_begin : ℕ → Bool
is_begin a = nat_le 128 a

abbrev pub is_end : ℕ → Bool
is_end a = nat_le 64 (a % 128)

-- a class of two bits and a number of twelve
abbrev pub short_header : ℕ → ℕ → Header
short_header a b = record { begin = is_begin a; end = is_end a; class = a / 16 % 4; number = a % 16 * 256 + b }

-- a class of four bits, two bits that are ignored, and a number of twenty-four
abbrev pub long_header : ℕ → ℕ → ℕ → ℕ → Header
long_header a b c d = record { begin = is_begin a; end = is_end a; class = a / 4 % 16; number = (b * 256 + c) * 256 + d }

-- the header that octets begin with, and its size
abbrev pub header_of : Bool → List ℕ → Option (Header × ℕ)
header_of true (a ∷ b ∷ rest) = Some (short_header a b, 2)
header_of false (a ∷ b ∷ c ∷ d ∷ rest) = Some (long_header a b c d, 4)
header_of short octets = None

-- ---- writing: the two ignored bits are 0

abbrev pub flag : Bool → ℕ → ℕ
flag true bit = bit
flag false bit = 0

abbrev pub header_octets : Bool → Header → List ℕ
header_octets true h = (flag h.begin 128 + flag h.end 64 + h.class * 16 + h.number / 256) ∷ (h.number % 256) ∷ []
header_octets false h =
    (flag h.begin 128 + flag h.end 64 + h.class * 4) ∷ (h.number / 65536) ∷ (h.number / 256 % 256) ∷ (h.number % 256) ∷ []

-- a header of a form
pub record IsHeaderOf (short : Bool) (h : Header) : Type 0 where
  pub class : h.class < classes_of short
  pub number : h.number < space_of short

-- a fragment with its class and its number on the wire
abbrev pub framed : Bool → ℕ → ℕ → Fragment → List ℕ
framed short class number f =
    header_octets short (record { begin = f.begins; end = f.ends; class = class; number = number }) ++ f.payload
