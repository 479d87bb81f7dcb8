-- Dotted addresses: four decimal numbers of 0 to 255 without leading zeros, with dots between them (RFC 1332 section 3.3
-- has the address in four octets).
use Rattle.std.specs.Prelude.{ℕ, ◌==◌, if◌then◌else◌, List, [], ◌∷◌, Option, Some, None, option_map, option_and_then}
use Rattle.std.specs.Int.{w32, from_be_bytes}
use Rattle.std.specs.Net.Reader.{read_ipv4}

-- what was read, where nothing of the text is left
abbrev pub whole_of : {A : Type 0} → Option (A × List ℕ) → Option A
whole_of (Some (value, [])) = Some value
whole_of (Some (value, x ∷ rest)) = None
whole_of None = None

-- a dotted address as a number, the first octet the highest
unfoldable pub dotted_of : List ℕ → Option ℕ
dotted_of text = option_map (from_be_bytes w32) (whole_of (read_ipv4 text))

abbrev pub not_zero : ℕ → Option ℕ
not_zero n = if n == 0 then None else Some n

-- a dotted address that isn't `0.0.0.0`
unfoldable pub given_of : List ℕ → Option ℕ
given_of text = option_and_then not_zero (dotted_of text)
