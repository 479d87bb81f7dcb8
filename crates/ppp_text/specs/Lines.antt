-- Lines of a text.
use Rattle.std.specs.Prelude.{◌≡◌, ℕ, ◌<◌, ◌==◌, if◌then◌else◌, List, [], ◌∷◌, ◌++◌, length}
use Rattle.std.specs.List.{slice_split}
use Rattle.std.specs.Str.Lines.{lines}

-- the lines of a text, without their ends: LF, or CR and LF, which the last one may lack
unfoldable pub lines_of : List ℕ → List (List ℕ)
lines_of text = lines text

-- the parts between line feeds (10), each with the one behind it; an empty last part is no line
abbrev pub with_feeds : List (List ℕ) → List (List ℕ)
with_feeds [] = []
with_feeds (x ∷ []) = if length x == 0 then [] else x ∷ []
with_feeds (x ∷ y ∷ more) = (x ++ 10 ∷ []) ∷ with_feeds (y ∷ more)

-- the lines of a text, with their ends
unfoldable pub pieces_of : List ℕ → List (List ℕ)
pieces_of text = with_feeds (slice_split (λ x. x == 10) text)

-- of a text, its first line, and what stands behind the end of that
pub record FirstLine (text line behind : List ℕ) : Type 0 where
  pub lines : lines_of text ≡ line ∷ lines_of behind
  pub piece : List ℕ
  pub pieces : pieces_of text ≡ piece ∷ pieces_of behind
  pub text_is : text ≡ piece ++ behind
  pub some : 0 < length piece
