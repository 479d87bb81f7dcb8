-- Sets of links as numbers, and numbers link by link.
use Rattle.std.proofs.Common.{◌≡◌, ◌∙◌, ◌+◌, ◌*◌, ◌^◌, ◌<◌, ◌≤◌, ℕ, zero, suc, Bool, true, false, List, [], ◌∷◌, ◌++◌, length, map, take, drop, set, replicate, sym, ap, arith}
use Rattle.std.specs.Prelude.{Option, None, slice_get, Some}
use Rattle.ppp_bundle.specs.Bundles.{bit, mask}
use Rattle.ppp_link.specs.Link.{Link}
use Rattle.ppp_station.specs.View.{is_idle_link}

bit-le : (b : Bool) → bit b ≤ 1
bit-le false = omega arith
bit-le true = omega arith

pow-pos : (n : ℕ) → 1 ≤ 2 ^ n
pow-pos zero = omega arith
pow-pos (suc n) = let p = pow-pos n in omega (arith, p)

pub mask-lt : (bs : List Bool) (n : ℕ) → length bs ≤ n → mask bs < 2 ^ n
mask-lt [] n h = let p = pow-pos n in omega (arith, p)
mask-lt (b ∷ bs) zero h = absurd (omega (arith, h))
mask-lt (b ∷ bs) (suc n) h =
    let rest : mask bs < 2 ^ n = mask-lt bs n (omega (arith, h)) in
    let one = bit-le b in
    omega (arith, rest, one)

same-there : {A : Type 0} (j k : A) → Some j ≡ Some k → j ≡ k
same-there j k e = cc

-- one link more, downwards
pub idle-next : (ks : List Link) (i : ℕ) (k : Link) → slice_get ks i ≡ Some k →
    mask (map is_idle_link (drop i ks)) ≡ bit (is_idle_link k) + 2 * mask (map is_idle_link (drop (suc i) ks))
idle-next [] i k e = cc
idle-next (j ∷ ks) zero k e = ap (λ n. bit (is_idle_link n) + 2 * mask (map is_idle_link ks)) (same-there j k e)
idle-next (j ∷ ks) (suc i) k e = idle-next ks i k e

-- one link more, upwards
pub numbers-next : (f : Link → Option ℕ) (ks : List Link) (i m : ℕ) (k : Link) (x : Option ℕ) → slice_get ks i ≡ Some k → x ≡ f k →
    set (map f (take i ks) ++ replicate (suc m) None) i x ≡ map f (take (suc i) ks) ++ replicate m None
numbers-next f [] i m k x e h = cc
numbers-next f (j ∷ ks) zero m k x e h = ap (λ (y : Option ℕ). y ∷ replicate m None) (h ∙ sym (ap f (same-there j k e)))
numbers-next f (j ∷ ks) (suc i) m k x e h = ap (λ (ys : List (Option ℕ)). f j ∷ ys) (numbers-next f ks i m k x e h)

-- one place more, upwards
pub controls-next : (cs : List (Option ℕ)) (i : ℕ) (x : Option ℕ) (f : ℕ → Option ℕ) → i < length cs → x ≡ f i → ((j : ℕ) → j < i → slice_get cs j ≡ Some (f j)) →
    (j : ℕ) → j < suc i → slice_get (set cs i x) j ≡ Some (f j)
controls-next [] i x f less is all j below = absurd (omega arith)
controls-next (c ∷ cs) zero x f less is all zero below = ap (λ o. Some o) is
controls-next (c ∷ cs) zero x f less is all (suc j) below = absurd (omega arith)
controls-next (c ∷ cs) (suc i) x f less is all zero below = all zero (omega arith)
controls-next (c ∷ cs) (suc i) x f less is all (suc j) below =
    controls-next cs i x (λ n. f (suc n)) (omega arith) is (λ n h. all (suc n) (omega arith)) j (omega arith)
