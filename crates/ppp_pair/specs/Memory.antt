-- That an end which left a link may join it again exactly where the other end was without it since.
use Rattle.std.specs.Prelude.{◌≡◌, ◌⊎◌, ◌↔◌, ℕ, false, List, [], ◌∷◌, ⊤, map}
use Rattle.ppp_pair.specs.Pair.{Event, Pair, Side, after, happens, seen, start}

-- the states of a run behind some, the newest first
abbrev pub states : List Event → Pair → List Pair → List Pair
states [] p before = p ∷ before
states (e ∷ es) p before = states es (happens p e) (p ∷ before)

-- Going back over the states while the first end is without the link: in one of them the other end is without it too, or the first
-- end never had it.
abbrev pub IsFree : ℕ → List Pair → Type 0
IsFree l [] = ⊤
IsFree l (p ∷ before) = (p.a.joined l ≡ false) × ((p.b.joined l ≡ false) ⊎ IsFree l before)

-- whatever happens, and at both ends: of a link that isn't joined
abbrev pub Remembered : Type 0
Remembered = (events : List Event) (side : Side) (l : ℕ) →
    (after events side).a.joined l ≡ false →
    ((after events side).a.barred l ≡ false) ↔ IsFree l (map (seen side) (states events start []))
