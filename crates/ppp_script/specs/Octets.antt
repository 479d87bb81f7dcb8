-- The octets of a line.
use Rattle.std.specs.Prelude.{ℕ, ◌≤◌, nat_le, ◌&&◌, if◌then◌else◌, List, length, Result, Ok, Err}
use Rattle.hex.specs.Hex.{decode_of, IsBytes}
use Rattle.hex.specs.declared.error.FromHexError.{FromHexError}
use Rattle.ppp_script.specs.declared.line_why.LineWhy.{LineWhy}
use Rattle.ppp_script.specs.declared.line_why.LineWhy.TheVariants as why
use Rattle.ppp_script.specs.declared.octets.TheConstants.{MOST_OCTETS}

-- octets that a line can have: 1 to 65,536
pub record IsOctets (octets : List ℕ) : Type 0 where
  pub some : 1 ≤ length octets
  pub few : length octets ≤ MOST_OCTETS
  pub bytes : IsBytes octets

-- what digits were decoded to, where a line can have it
abbrev pub if_decoded : Result (List ℕ) FromHexError → Result (List ℕ) LineWhy
if_decoded (Ok octets) = if nat_le 1 (length octets) && nat_le (length octets) MOST_OCTETS then Ok octets else Err why.Event
if_decoded (Err e) = Err why.Event

-- the octets that a field is: two hex digits of either case each
unfoldable pub octets_in : List ℕ → Result (List ℕ) LineWhy
octets_in field = if_decoded (decode_of field)
