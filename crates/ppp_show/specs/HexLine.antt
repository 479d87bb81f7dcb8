-- Lines of hex digits, and the octets that they give.
use Rattle.std.specs.Prelude.{ℕ, ◌+◌, List, [], ◌∷◌, ◌++◌, Option, Some, None, Result, Ok, Err}
use Rattle.hex.specs.Hex.{decode_of}
use Rattle.hex.specs.declared.error.FromHexError.{FromHexError}
use Rattle.ppp_text.specs.Lines.{lines_of}

-- what was decoded, or None where nothing could be
abbrev pub if_decoded : Result (List ℕ) FromHexError → Option (List ℕ)
if_decoded (Ok octets) = Some octets
if_decoded (Err why) = None

-- The octets of a line, of two hex digits each, of either case: None where it isn't such pairs. An empty line is no octets.
abbrev pub octets_of_line : List ℕ → Option (List ℕ)
octets_of_line line = if_decoded (decode_of line)

-- octets in front of those of the lines behind them, or the refusal of one of those
abbrev pub in_front : List ℕ → Result (List ℕ) ℕ → Result (List ℕ) ℕ
in_front octets (Ok more) = Ok (octets ++ more)
in_front octets (Err line) = Err line

-- the line of that number, and then the lines behind it
abbrev pub line_first : ℕ → Option (List ℕ) → Result (List ℕ) ℕ → Result (List ℕ) ℕ
line_first number (Some octets) more = in_front octets more
line_first number None more = Err number

-- the octets of lines that are counted from a number on, or the number of the first line that is refused
abbrev pub octets_from : ℕ → List (List ℕ) → Result (List ℕ) ℕ
octets_from number [] = Ok []
octets_from number (line ∷ lines) =
    line_first number (octets_of_line line) (octets_from (number + 1) lines)

-- the octets of a text, or the number of its first line that is refused
unfoldable pub octets_of_text : List ℕ → Result (List ℕ) ℕ
octets_of_text text = octets_from 1 (lines_of text)
