-- Lists that a loop walks, and places in lists.
use Rattle.std.proofs.Common.{◌≡◌, ℕ, zero, suc, ◌-◌, ◌<◌, ◌≤◌, List, [], ◌∷◌, ◌++◌, take, drop, length, map, set, get_or, refl, sym, ap, subst, ◌∙◌, arith}
use Rattle.std.specs.Prelude.{Some, slice_get}
use Rattle.std.specs.List.{AllByRecursion}
use Rattle.std.proofs.lemmas.Option.{slice_get-get_or, slice_get_read}
use Rattle.ppp_party.specs.Party.{at_link}

-- what is left at a place begins with what stands there
pub drop-get : {X : Type 0} (xs : List X) (i : ℕ) (x : X) → slice_get xs i ≡ Some x → drop i xs ≡ x ∷ drop (suc i) xs
drop-get [] i x is = absurd (cc)
drop-get (y ∷ ys) zero x is = cc
drop-get (y ∷ ys) (suc i) x is = drop-get ys i x is

-- the first, and one more
pub take-next : {X : Type 0} (xs : List X) (i : ℕ) (x : X) → slice_get xs i ≡ Some x → take (suc i) xs ≡ take i xs ++ x ∷ []
take-next [] i x is = absurd (cc)
take-next (y ∷ ys) zero x is = let same : y ≡ x = cc in rw same refl
take-next (y ∷ ys) (suc i) x is = ap (λ ys. y ∷ ys) (take-next ys i x is)

-- what holds of all holds at a place
pub all-at : {X : Type 0} (P : X → Type 0) (xs : List X) (i : ℕ) (x : X) → AllByRecursion P xs → slice_get xs i ≡ Some x → P x
all-at P [] i x all is = absurd (cc)
all-at P (y ∷ ys) zero x all is = let same : y ≡ x = cc in subst P same all.0
all-at P (y ∷ ys) (suc i) x all is = all-at P ys i x all.1 is

pub all-set : {X : Type 0} (P : X → Type 0) (xs : List X) (i : ℕ) (x : X) → AllByRecursion P xs → P x → AllByRecursion P (set xs i x)
all-set P [] i x all one = tt
all-set P (y ∷ ys) zero x all one = (one, all.1)
all-set P (y ∷ ys) (suc i) x all one = (all.0, all-set P ys i x all.1 one)

-- what an index lends
pub lent-at : {X : Type 0} (xs : List X) (at l : ℕ) (x : X) → at ≡ l - 1 → 1 ≤ l → l ≤ length xs → x ≡ get_or xs at x → slice_get xs (l - 1) ≡ Some x
lent-at xs at l x is low high lends = ap (slice_get xs) (sym is) ∙ slice_get_read xs (length xs) at x refl (omega (arith, is, low)) lends

-- the first are changed, and one more
mapped-next : {X : Type 0} (f : X → X) (xs : List X) (i : ℕ) (x : X) → slice_get xs i ≡ Some x →
    set (map f (take i xs) ++ drop i xs) i (f x) ≡ map f (take (suc i) xs) ++ drop (suc i) xs
mapped-next f [] i x is = absurd (cc)
mapped-next f (y ∷ ys) zero x is = let same : y ≡ x = cc in rw same refl
mapped-next f (y ∷ ys) (suc i) x is = ap (λ ys. f y ∷ ys) (mapped-next f ys i x is)

mapped-get : {X : Type 0} (f : X → X) (xs : List X) (i : ℕ) → slice_get (map f (take i xs) ++ drop i xs) i ≡ slice_get xs i
mapped-get f [] zero = refl
mapped-get f [] (suc i) = refl
mapped-get f (x ∷ xs) zero = refl
mapped-get f (x ∷ xs) (suc i) = mapped-get f xs i

pub changed-next : {X : Type 0} (f : X → X) (xs now : List X) (i : ℕ) (d x : X) → i < length now → now ≡ map f (take i xs) ++ drop i xs → x ≡ f (get_or now i d) →
    set now i x ≡ map f (take (suc i) xs) ++ drop (suc i) xs
changed-next f xs now i d x less is new =
    let there : slice_get xs i ≡ Some (get_or now i d) = sym (mapped-get f xs i) ∙ ap (λ xs. slice_get xs i) (sym is) ∙ slice_get-get_or now i d less in
    ap (λ ys. set ys i x) is ∙ ap (set (map f (take i xs) ++ drop i xs) i) new ∙ mapped-next f xs i (get_or now i d) there

-- a place in a list, from 1 on
at-next : {X : Type 0} (f : X → X) (xs : List X) (i : ℕ) (x : X) → slice_get xs i ≡ Some x → at_link (suc i) f xs ≡ set xs i (f x)
at-next f [] i x is = absurd (cc)
at-next f (y ∷ ys) zero x is = let same : y ≡ x = cc in rw same refl
at-next f (y ∷ ys) (suc i) x is = ap (λ ys. y ∷ ys) (at-next f ys i x is)

pub at-set : {X : Type 0} (f : X → X) (xs : List X) (l : ℕ) (x : X) → 1 ≤ l → slice_get xs (l - 1) ≡ Some x → at_link l f xs ≡ set xs (l - 1) (f x)
at-set f xs zero x low is = absurd (omega arith)
at-set f xs (suc i) x low is =
    let e : suc i - 1 ≡ i = omega arith in
    let there : slice_get xs i ≡ Some x = rw e at is in
    rw e (at-next f xs i x there)

-- there is a link of that number
pub there-is : {X : Type 0} (xs : List X) (l : ℕ) → 1 ≤ l → l ≤ length xs → (x : X) × (slice_get xs (l - 1) ≡ Some x)
there-is xs l low high = by xs (l - 1) (omega arith)
  where
    by : {X : Type 0} (xs : List X) (i : ℕ) → i < length xs → (x : X) × (slice_get xs i ≡ Some x)
    by [] i less = absurd (omega arith)
    by (x ∷ xs) zero less = (x, refl)
    by (x ∷ xs) (suc i) less = by xs i (omega arith)
