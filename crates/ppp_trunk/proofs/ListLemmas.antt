-- Lists that a loop walks.
use Rattle.std.proofs.Common.{◌≡◌, zero, suc, ℕ, List, [], ◌∷◌, ◌++◌, drop, Some, slice_get}
use Rattle.std.specs.List.{AllByRecursion}

-- what is left at a place begins with what stands there
pub drop-get : {X : Type 0} (xs : List X) (i : ℕ) (x : X) → slice_get xs i ≡ Some x → drop i xs ≡ x ∷ drop (suc i) xs
drop-get [] i x is = absurd (cc)
drop-get (y ∷ ys) zero x is = cc
drop-get (y ∷ ys) (suc i) x is = drop-get ys i x is

pub AllByRecursion-append : {X : Type 0} (P : X → Type 0) (xs ys : List X) → AllByRecursion P xs → AllByRecursion P ys → AllByRecursion P (xs ++ ys)
AllByRecursion-append P [] ys first rest = rest
AllByRecursion-append P (x ∷ xs) ys first rest = (first.0, AllByRecursion-append P xs ys first.1 rest)
