-- Requests of which one is put, or ended.
use Rattle.std.proofs.Common.{◌≡◌, ℕ, zero, suc, List, [], ◌∷◌, get_or, set, refl, ap, inl, inr, ⊎_elim}
use Rattle.std.specs.Prelude.{◌⊎◌, Option, None}

-- at a place is what was put there, or what stood there
pub set-either : {A : Type 0} (xs : List (Option A)) (i j : ℕ) (x : Option A) →
    ((j ≡ i) × (get_or (set xs i x) j None ≡ x)) ⊎ (get_or (set xs i x) j None ≡ get_or xs j None)
set-either [] i j x = inr refl
set-either (y ∷ xs) zero zero x = inl (refl, refl)
set-either (y ∷ xs) zero (suc j) x = inr refl
set-either (y ∷ xs) (suc i) zero x = inr refl
set-either (y ∷ xs) (suc i) (suc j) x = ⊎_elim (λ h. inl (ap suc h.0, h.1)) (λ h. inr h) (set-either xs i j x)

-- and nothing, where it was ended
pub set-none : {A : Type 0} (xs : List (Option A)) (i : ℕ) → get_or (set xs i None) i None ≡ None
set-none [] i = refl
set-none (y ∷ xs) zero = refl
set-none (y ∷ xs) (suc i) = set-none xs i
