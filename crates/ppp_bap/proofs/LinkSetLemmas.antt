-- Walks over the numbers of links.
use Rattle.std.proofs.Common.{◌≡◌, ℕ, zero, suc, ◌<◌, Bool, true, false, List, [], ◌∷◌, length, get_or, drop, Some, ap, sym, arith, cond}
use Rattle.std.specs.Prelude.{◌||◌}
use Rattle.std.specs.List.{find, list_any}

pub find_here : {X : Type 0} (p : X → Bool) (xs : List X) (i : ℕ) (d : X) → i < length xs → p (get_or xs i d) ≡ true → find p (drop i xs) ≡ Some (get_or xs i d)
find_here p [] i d lt t = absurd (omega arith)
find_here p (x ∷ xs) zero d lt t = ap (λ b. cond b (Some x) (find p xs)) t
find_here p (x ∷ xs) (suc i) d lt t = find_here p xs i d (omega arith) t

pub find_further : {X : Type 0} (p : X → Bool) (xs : List X) (i : ℕ) (d : X) → i < length xs → p (get_or xs i d) ≡ false → find p (drop (suc i) xs) ≡ find p (drop i xs)
find_further p [] i d lt t = absurd (omega arith)
find_further p (x ∷ xs) zero d lt t = ap (λ b. cond b (Some x) (find p xs)) (sym t)
find_further p (x ∷ xs) (suc i) d lt t = find_further p xs i d (omega arith) t

pub any_here : {X : Type 0} (p : X → Bool) (xs : List X) (i : ℕ) (d : X) → i < length xs → p (get_or xs i d) ≡ true → list_any p (drop i xs) ≡ true
any_here p [] i d lt t = absurd (omega arith)
any_here p (x ∷ xs) zero d lt t = ap (λ b. b || list_any p xs) t
any_here p (x ∷ xs) (suc i) d lt t = any_here p xs i d (omega arith) t

pub any_further : {X : Type 0} (p : X → Bool) (xs : List X) (i : ℕ) (d : X) → i < length xs → p (get_or xs i d) ≡ false → list_any p (drop (suc i) xs) ≡ list_any p (drop i xs)
any_further p [] i d lt t = absurd (omega arith)
any_further p (x ∷ xs) zero d lt t = ap (λ b. b || list_any p xs) (sym t)
any_further p (x ∷ xs) (suc i) d lt t = any_further p xs i d (omega arith) t
