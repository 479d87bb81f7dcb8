-- What an object of the outside tells of itself, or None where it doesn't tell.
use Rattle.std.specs.Prelude.{◌≡◌, List, [], ◌++◌, Option, Some, None, ⊤}

-- These were the first of what is left, and are taken off. What tells before the call tells after it.
abbrev pub TakesOff : {A : Type 0} → Option (List A) → Option (List A) → List A → Type 0
TakesOff None new taken = ⊤
TakesOff (Some xs) None taken = ⊥
TakesOff (Some xs) (Some ys) taken = xs ≡ taken ++ ys

-- These are put behind what is held. What tells after the call told before it.
abbrev pub PutsOn : {A : Type 0} → Option (List A) → Option (List A) → List A → Type 0
PutsOn old None put = ⊤
PutsOn None (Some ys) put = ⊥
PutsOn (Some xs) (Some ys) put = ys ≡ xs ++ put

-- nothing is left, where it tells
abbrev pub IsDrained : {A : Type 0} → Option (List A) → Type 0
IsDrained None = ⊤
IsDrained (Some xs) = xs ≡ []
