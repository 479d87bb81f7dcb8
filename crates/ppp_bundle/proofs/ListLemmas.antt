-- Lists that a loop walks.
use Rattle.std.proofs.Common.{◌≡◌, ℕ, zero, suc, ◌+◌, ◌^◌, ◌<◌, ◌≤◌, ◌⊎◌, inl, inr, Bool, true, false, List, [], ◌∷◌, length, map, drop, get_or, set, replicate, Some, refl, ap, arith, length-drop}
use Rattle.std.specs.Prelude.{Option, None}
use Rattle.std.proofs.lemmas.List.{drop_more, length-map}
use Rattle.ppp_bundle.specs.Bundles.{first_some, mask}

-- what a loop over places has left, where the item at the place is known
pub left-more : {A B : Type 0} (v : A → B) (xs : List A) (i : ℕ) (d : A) → i < length xs →
    map v (drop i xs) ≡ v (get_or xs i d) ∷ map v (drop (i + 1) xs)
left-more v xs i d less = ap (map v) (drop_more xs i d less)

pub none-first : {A B C : Type 0} (f : B → Option C) (v : A → B) (xs : List A) (i : ℕ) (d : A) → i < length xs → f (v (get_or xs i d)) ≡ None →
    first_some (map f (map v (drop i xs))) ≡ first_some (map f (map v (drop (i + 1) xs)))
none-first f v xs i d less none = rw (left-more v xs i d less, none) refl

pub some-first : {A B C : Type 0} (f : B → Option C) (v : A → B) (xs : List A) (i : ℕ) (d : A) (y : C) → i < length xs → f (v (get_or xs i d)) ≡ Some y →
    first_some (map f (map v (drop i xs))) ≡ Some y
some-first f v xs i d y less is = rw (left-more v xs i d less, is) refl

pub none-left : {A B C : Type 0} (f : B → Option C) (v : A → B) (xs : List A) (i : ℕ) → length xs ≤ i → first_some (map f (map v (drop i xs))) ≡ None
none-left f v [] zero all = refl
none-left f v [] (suc i) all = refl
none-left f v (x ∷ xs) zero all = absurd (omega arith)
none-left f v (x ∷ xs) (suc i) all = none-left f v xs i (omega arith)

-- a set of links of that many links at most
pub mask-below : (n : ℕ) (xs : List Bool) → length xs ≤ n → mask xs < 2 ^ n
mask-below zero [] within = omega arith
mask-below zero (x ∷ xs) within = absurd (omega arith)
mask-below (suc n) [] within = let h = mask-below n [] (omega arith) in omega (arith, h)
mask-below (suc n) (true ∷ xs) within = let h = mask-below n xs (omega arith) in omega (arith, h)
mask-below (suc n) (false ∷ xs) within = let h = mask-below n xs (omega arith) in omega (arith, h)

-- the links behind a place are fewer than all
pub mask-left : {A B : Type 0} (f : B → Bool) (v : A → B) (xs : List A) (i : ℕ) → length xs ≤ 16 → 0 < i → mask (map f (map v (drop i xs))) < 32768
mask-left f v xs i size some =
    mask-below 15 (map f (map v (drop i xs))) (omega (arith, size, some, length-map (map v (drop i xs)) f, length-map (drop i xs) v, length-drop i xs))

-- what stands within a list doesn't rest on what is read past it
pub get-any : {A : Type 0} (xs : List A) (i : ℕ) (d e : A) → i < length xs → get_or xs i d ≡ get_or xs i e
get-any [] i d e less = absurd (omega arith)
get-any (x ∷ xs) zero d e less = refl
get-any (x ∷ xs) (suc i) d e less = get-any xs i d e (omega arith)

pub by-either : {A B P : Type 0} → A ⊎ B → (A → P) → (B → P) → P
by-either (inl a) f g = f a
by-either (inr b) f g = g b

-- what stands at a place after one place was set
pub set-cases : {A : Type 0} (ps : List (Option A)) (i j : ℕ) (x : Option A) →
    ((i ≡ j) × (get_or (set ps i x) j None ≡ x)) ⊎ (get_or (set ps i x) j None ≡ get_or ps j None)
set-cases [] i j x = inr refl
set-cases (p ∷ ps) zero zero x = inl (refl, refl)
set-cases (p ∷ ps) zero (suc j) x = inr refl
set-cases (p ∷ ps) (suc i) zero x = inr refl
set-cases (p ∷ ps) (suc i) (suc j) x = by-either (set-cases ps i j x) (λ own. inl (ap suc own.0, own.1)) (λ other. inr other)

pub none-anywhere : {A : Type 0} (n i : ℕ) → get_or {A = Option A} (replicate n None) i None ≡ None
none-anywhere zero i = refl
none-anywhere (suc n) zero = refl
none-anywhere (suc n) (suc i) = none-anywhere n i
