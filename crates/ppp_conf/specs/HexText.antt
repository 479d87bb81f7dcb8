-- Octets in lower-case hexadecimal digits.
use Rattle.std.specs.Prelude.{◌≡◌, ℕ, Bool, true, false, ◌||◌, if◌then◌else◌, List, Option, Some, None, option_map, codes, bytes_eq}
use Rattle.std.specs.Int.{w64, from_be_bytes}
use Rattle.std.specs.List.{list_all}
use Rattle.std.specs.Result.{result_ok}
use Rattle.hex.specs.Hex.{decode_sized}
use Rattle.ppp_packet.specs.DiscClass.{is_within}

-- `0` to `9` and `a` to `f`
abbrev pub is_lower_digit : ℕ → Bool
is_lower_digit x = is_within 48 57 x || is_within 97 102 x

-- so many octets, of two digits each
unfoldable pub hex_octets : ℕ → List ℕ → Option (List ℕ)
hex_octets size text = if list_all is_lower_digit text then result_ok (decode_sized text size) else None

-- an interface identifier: `none`, or the sixteen digits of a number (RFC 5072 section 4.1)
unfoldable pub ifid_of : List ℕ → Option (Option ℕ)
ifid_of text =
    if bytes_eq text (codes "none") then Some None
    else option_map (λ octets. Some (from_be_bytes w64 octets)) (hex_octets 8 text)

-- a reader that answers whether it wrote octets, beside the octets that are to be read
abbrev pub IsRead : Bool → List ℕ → Option (List ℕ) → Type 0
IsRead true octets read = read ≡ Some octets
IsRead false octets read = read ≡ None
