-- Decimal numbers.
use Rattle.std.specs.Prelude.{ℕ, ◌&&◌, not, nat_lt, nat_le, ◌==◌, if◌then◌else◌, Bool, List, length, slice_index, Option, Some, None}
use Rattle.std.specs.List.{list_all}
use Rattle.std.specs.Char.{is_ascii_digit}
use Rattle.std.specs.Str.Parse.{digits_value}

-- a `0` (48) before another octet
abbrev pub has_leading_zero : List ℕ → Bool
has_leading_zero field = nat_lt 1 (length field) && (slice_index field 0 == 48)

-- decimal digits, at least one, without a sign or a leading zero
abbrev pub is_number : List ℕ → Bool
is_number field = (not (length field == 0) && list_all is_ascii_digit field) && not (has_leading_zero field)

-- the number that a field is
unfoldable pub number_of : List ℕ → Option ℕ
number_of field = if is_number field then Some (digits_value 10 field) else None

-- that number, where it isn't above this one
abbrev pub up_to : ℕ → ℕ → Option ℕ
up_to most n = if nat_le n most then Some n else None

-- that number, where it is within these bounds
abbrev pub within : ℕ → ℕ → Option ℕ → Option ℕ
within least most None = None
within least most (Some n) = if nat_le least n && nat_le n most then Some n else None

-- the number that a field is, where it is within these bounds
unfoldable pub number_in : ℕ → ℕ → List ℕ → Option ℕ
number_in least most field = within least most (number_of field)
