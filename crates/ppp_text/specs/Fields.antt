-- The fields of a line.
use Rattle.std.specs.Prelude.{ℕ, ◌==◌, List, [], Option, Some, None}
use Rattle.std.specs.List.{slice_split, join_with_byte}
use denote.Ref.{Bor}

-- the fields of a line, parted by one space (32)
unfoldable pub fields_of : List ℕ → List (List ℕ)
fields_of line = slice_split (λ x. x == 32) line

-- these fields as a line
abbrev pub line_with : List (List ℕ) → List ℕ
line_with fields = join_with_byte 32 fields

-- the fields of what is left of a line
abbrev pub fields_behind : Option (Bor (List ℕ)) → List (List ℕ)
fields_behind None = []
fields_behind (Some text) = fields_of text.now
