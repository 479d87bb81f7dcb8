-- The octets that stand for octets between two flags (RFC 1662 section 4.2).
use Rattle.std.specs.Prelude.{◌≡◌, ◌≢◌, ◌⊎◌, ℕ, ◌==◌, ◌&&◌, ◌||◌, nat_lt, Bool, not, if◌then◌else◌, List, [], ◌∷◌, ◌++◌, flat_map, bit_xor}
use Rattle.std.specs.Int.{bit_at}
use Rattle.std.specs.List.{AllByRecursion}
use Rattle.ppp_frame.specs.declared.escapes.TheConstants.{FLAG, ESCAPE, TOGGLE}

-- an octet at the front of a piece stands for x, and the rest is left: as itself, or behind an escape
abbrev pub StandsFor : ℕ → List ℕ → List ℕ → Type 0
StandsFor x piece rest =
    ((x ≢ ESCAPE) × (x ≢ FLAG) × (piece ≡ x ∷ rest))
    ⊎ ((bit_xor x TOGGLE ≢ FLAG) × (piece ≡ ESCAPE ∷ bit_xor x TOGGLE ∷ rest))

-- these octets stand in the piece, in order and nothing else
abbrev pub Escapes : List ℕ → List ℕ → Type 0
Escapes [] piece = piece ≡ []
Escapes (x ∷ xs) piece = (rest : List ℕ) × StandsFor x piece rest × Escapes xs rest

-- the octets have no flag
abbrev pub HasNoFlag : List ℕ → Type 0
HasNoFlag piece = AllByRecursion (λ x. x ≢ FLAG) piece

-- ---- what a sender writes

-- flag and escape, and the octets below 20 whose bit the map has (section 7.1)
unfoldable pub must_escape : ℕ → ℕ → Bool
must_escape map x = x == ESCAPE || x == FLAG || (nat_lt x 0x20 && bit_at map x == 1)

-- flag, escape, or lower than this
abbrev pub is_special : ℕ → ℕ → Bool
is_special low x = x == ESCAPE || x == FLAG || nat_lt x low

abbrev pub spelled : ℕ → ℕ → List ℕ
spelled map x = if must_escape map x then ESCAPE ∷ bit_xor x TOGGLE ∷ [] else x ∷ []

abbrev pub stuffed : ℕ → List ℕ → List ℕ
stuffed map xs = flat_map (spelled map) xs

-- ---- what a reader finds

abbrev pub is_escape : ℕ → Bool
is_escape x = x == ESCAPE

-- the octet opens an escape: it is one, and the octet before it was none
abbrev pub opens : Bool → ℕ → Bool
opens escaped x = not escaped && x == ESCAPE

-- what is read of the octet, where the octet before it was an escape or not
abbrev pub read_octet : Bool → ℕ → List ℕ
read_octet escaped x = if escaped then bit_xor x TOGGLE ∷ [] else if x == ESCAPE then [] else x ∷ []

abbrev pub unstuffed : Bool → List ℕ → List ℕ
unstuffed escaped [] = []
unstuffed escaped (x ∷ xs) = read_octet escaped x ++ unstuffed (opens escaped x) xs

-- the last octet was an escape
abbrev pub escaped_after : Bool → List ℕ → Bool
escaped_after escaped [] = escaped
escaped_after escaped (x ∷ xs) = escaped_after (opens escaped x) xs
