-- The frame check sequence of 16 bits (RFC 1662 section 3.1 and appendix C.2).
use Rattle.std.specs.Prelude.{ℕ, zero, suc, ◌*◌, ◌/◌, ◌%◌, List, [], ◌∷◌, ◌++◌, bit_xor}

-- one bit through the polynomial x^16 + x^12 + x^5 + 1, of which 0x8408 are the bits in reverse
unfoldable pub halved : ℕ → ℕ
halved v = bit_xor (v / 2) (v % 2 * 0x8408)

-- eight bits
unfoldable pub shifted : ℕ → ℕ
shifted v = halved (halved (halved (halved (halved (halved (halved (halved v)))))))

-- several octets of zero, which only shift
abbrev pub shifted_by : ℕ → ℕ → ℕ
shifted_by zero v = v
shifted_by (suc n) v = shifted (shifted_by n v)

abbrev pub fcs_step : ℕ → ℕ → ℕ
fcs_step fcs octet = shifted (bit_xor fcs octet)

-- the running value after these octets
abbrev pub fcs_run : ℕ → List ℕ → ℕ
fcs_run fcs [] = fcs
fcs_run fcs (x ∷ xs) = fcs_run (fcs_step fcs x) xs

-- the running value before the first octet
abbrev pub fcs_start : ℕ
fcs_start = 0xffff

-- the check sequence of these octets, which is the complement of the running value
abbrev pub fcs_of : List ℕ → ℕ
fcs_of octets = bit_xor (fcs_run fcs_start octets) 0xffff

-- as it is sent, the low octet first
abbrev pub fcs_octets : List ℕ → List ℕ
fcs_octets octets = (fcs_of octets % 256) ∷ (fcs_of octets / 256) ∷ []

-- octets with their check sequence behind them
abbrev pub checked : List ℕ → List ℕ
checked octets = octets ++ fcs_octets octets
