-- One link among those of a trunk.
use Rattle.std.proofs.Common.{◌≡◌, ◌≢◌, ℕ, zero, suc, ◌-◌, ◌≤◌, Bool, true, false, List, [], ◌∷◌, length, Some, slice_get, refl, ap, inl, inr, arith}
use Rattle.std.specs.Prelude.{◌⊎◌, ◌==◌}
use Rattle.std.proofs.lemmas.Bool.{eqb-false, eqb-true}
use Rattle.ppp_link.specs.Link.{Link}
use Rattle.ppp_trunk.specs.Steps.{with_link}

pub same-or : (m l : ℕ) → (m ≡ l) ⊎ (m ≢ l)
same-or m l = by (m == l) refl
  where
    by : (b : Bool) → (m == l) ≡ b → (m ≡ l) ⊎ (m ≢ l)
    by true e = inl (eqb-true m l e)
    by false e = inr (eqb-false m l e)

own-from : (links : List Link) (l : ℕ) (k old : Link) → slice_get links l ≡ Some old → slice_get (with_link (suc l) k links) l ≡ Some k
own-from [] l k old is = absurd (cc)
own-from (x ∷ xs) zero k old is = refl
own-from (x ∷ xs) (suc l) k old is = own-from xs l k old is

others-from : (links : List Link) (l m : ℕ) (k : Link) → l ≢ suc m → slice_get (with_link l k links) m ≡ slice_get links m
others-from [] l m k other = refl
others-from (x ∷ xs) zero m k other = refl
others-from (x ∷ xs) (suc zero) zero k other = absurd (other refl)
others-from (x ∷ xs) (suc zero) (suc m) k other = refl
others-from (x ∷ xs) (suc (suc l)) zero k other = refl
others-from (x ∷ xs) (suc (suc l)) (suc m) k other = others-from xs (suc l) m k (λ same. other (ap suc same))

-- one that comes in the place of another
pub with-own : (links : List Link) (l : ℕ) (k old : Link) → 1 ≤ l → slice_get links (l - 1) ≡ Some old → slice_get (with_link l k links) (l - 1) ≡ Some k
with-own links zero k old low is = absurd (omega arith)
with-own links (suc l) k old low is =
    let e : suc l - 1 ≡ l = omega arith in
    rw e (own-from links l k old (rw e at is))

pub with-others : (links : List Link) (l m : ℕ) (k : Link) → 1 ≤ m → l ≢ m → slice_get (with_link l k links) (m - 1) ≡ slice_get links (m - 1)
with-others links l zero k low other = absurd (omega arith)
with-others links l (suc m) k low other =
    let e : suc m - 1 ≡ m = omega arith in
    rw e (others-from links l m k other)

pub with-length : (l : ℕ) (k : Link) (links : List Link) → length (with_link l k links) ≡ length links
with-length l k [] = refl
with-length zero k (x ∷ xs) = refl
with-length (suc zero) k (x ∷ xs) = refl
with-length (suc (suc l)) k (x ∷ xs) = ap suc (with-length (suc l) k xs)

-- the link that came, or one that was there
pub with-either : (links : List Link) (l i : ℕ) (k j : Link) → slice_get (with_link l k links) i ≡ Some j → (k ≡ j) ⊎ (slice_get links i ≡ Some j)
with-either [] l i k j is = inr is
with-either (x ∷ xs) zero i k j is = inr is
with-either (x ∷ xs) (suc zero) zero k j is = inl (cc)
with-either (x ∷ xs) (suc zero) (suc i) k j is = inr is
with-either (x ∷ xs) (suc (suc l)) zero k j is = inr is
with-either (x ∷ xs) (suc (suc l)) (suc i) k j is = with-either xs (suc l) i k j is
