-- The two parts of an input.
use Rattle.std.specs.Prelude.{ℕ, ◌+◌, Bool, List, take, drop, bytes_eq, codes}
use Rattle.std.specs.List.{concat, position_or_len}
use Rattle.ppp_text.specs.Lines.{lines_of, pieces_of}

-- the line that parts an input
abbrev pub is_parting : List ℕ → Bool
is_parting line = bytes_eq line (codes "---")

-- how many lines stand before the first such line; all where there is none
abbrev pub lines_before : List ℕ → ℕ
lines_before text = position_or_len is_parting (lines_of text)

-- the settings of an input: what stands before that line, or all
unfoldable pub settings_in : List ℕ → List ℕ
settings_in text = concat (take (lines_before text) (pieces_of text))

-- its script: what stands behind that line, or nothing
unfoldable pub script_in : List ℕ → List ℕ
script_in text = concat (drop (lines_before text + 1) (pieces_of text))
