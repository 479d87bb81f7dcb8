-- Facts on endpoint discriminators: their fields are in the order of the addresses as lists.
use Rattle.std.proofs.Common.{Ordering, ◌≡◌, ℕ, zero, suc, ◌+◌, ◌-◌, List, [], ◌∷◌, ◌++◌, length, take, replicate, length-append, refl, ap, arith}
use Rattle.std.specs.declared.cmp.Ordering.TheVariants.{Less, Equal, Greater}
use Rattle.std.specs.Ordering.{ordering_then, nat_cmp}
use Rattle.std.specs.Cmp.Lexicographic.{slice_cmp}
use Rattle.std.proofs.lemmas.List.{take-append-drop, length-take-le, length-replicate}
use Rattle.std.proofs.lemmas.Bool.Decides.{nat_tests}
use Rattle.ppp_packet.specs.Disc.{IsAddress, disc_order}
use Rattle.ppp_packet.specs.declared.disc.Disc.{Disc}

then_same : (first second third rest : Ordering) → ordering_then second third ≡ rest → ordering_then (ordering_then first second) third ≡ ordering_then first rest
then_same Less second third rest same = refl
then_same Equal second third rest same = same
then_same Greater second third rest same = refl

nat_cmp-suc : (m n : ℕ) → nat_cmp (suc m) (suc n) ≡ nat_cmp m n
nat_cmp-suc m n = grind (arith, nat_tests)

nat_cmp-same : (n : ℕ) → nat_cmp n n ≡ Equal
nat_cmp-same n = grind (arith, nat_tests)

zero-suc : (n : ℕ) → nat_cmp 0 (suc n) ≡ Less
zero-suc n = grind (arith, nat_tests)

suc-zero : (n : ℕ) → nat_cmp (suc n) 0 ≡ Greater
suc-zero n = grind (arith, nat_tests)

zeros_same : (m : ℕ) → slice_cmp nat_cmp (replicate m 0) (replicate m 0) ≡ Equal
zeros_same zero = refl
zeros_same (suc m) = zeros_same m

-- zeros are the least of their length
zeros_low : (m : ℕ) (xs : List ℕ) → length xs ≡ m → ordering_then (slice_cmp nat_cmp (replicate m 0) xs) Less ≡ Less
zeros_low zero [] same = refl
zeros_low zero (x ∷ xs) same = absurd (omega arith)
zeros_low (suc m) [] same = absurd (omega arith)
zeros_low (suc m) (zero ∷ xs) same = zeros_low m xs (omega arith)
zeros_low (suc m) (suc x ∷ xs) same = rw (zero-suc x) refl

zeros_high : (n : ℕ) (xs : List ℕ) → length xs ≡ n → ordering_then (slice_cmp nat_cmp xs (replicate n 0)) Greater ≡ Greater
zeros_high zero [] same = refl
zeros_high zero (x ∷ xs) same = refl
zeros_high (suc n) [] same = absurd (omega arith)
zeros_high (suc n) (zero ∷ xs) same = zeros_high n xs (omega arith)
zeros_high (suc n) (suc x ∷ xs) same = rw (suc-zero x) refl

padded_order : (xs ys : List ℕ) (m n : ℕ) → length xs + m ≡ length ys + n →
    ordering_then (slice_cmp nat_cmp (xs ++ replicate m 0) (ys ++ replicate n 0)) (nat_cmp (length xs) (length ys)) ≡ slice_cmp nat_cmp xs ys
padded_order [] [] m n same =
    let e : m ≡ n = omega arith in
    rw (e, zeros_same n) (nat_cmp-same 0)
padded_order [] (y ∷ ys) m n same =
    rw (zero-suc (length ys)) (zeros_low m (y ∷ ys ++ replicate n 0) (omega (arith, length-append ys (replicate n 0), length-replicate {A = ℕ} n 0)))
padded_order (x ∷ xs) [] m n same =
    rw (suc-zero (length xs)) (zeros_high n (x ∷ xs ++ replicate m 0) (omega (arith, length-append xs (replicate m 0), length-replicate {A = ℕ} m 0)))
padded_order (x ∷ xs) (y ∷ ys) m n same =
    rw (nat_cmp-suc (length xs) (length ys))
    (then_same (nat_cmp x y) (slice_cmp nat_cmp (xs ++ replicate m 0) (ys ++ replicate n 0)) (nat_cmp (length xs) (length ys)) (slice_cmp nat_cmp xs ys)
    (padded_order xs ys m n (omega arith)))

-- twenty octets and a size are in the order of the addresses
address_order : (xs ys : List ℕ) (m n : ℕ) → IsAddress xs m → IsAddress ys n →
    ordering_then (slice_cmp nat_cmp xs ys) (nat_cmp m n) ≡ slice_cmp nat_cmp (take m xs) (take n ys)
address_order xs ys m n left right =
    let m_size : length (take m xs) ≡ m = length-take-le m xs (omega (arith, left.within, left.whole)) in
    let n_size : length (take n ys) ≡ n = length-take-le n ys (omega (arith, right.within, right.whole)) in
    let xs_is : take m xs ++ replicate (20 - m) 0 ≡ xs = rw (← left.zeros) (take-append-drop m xs) in
    let ys_is : take n ys ++ replicate (20 - n) 0 ≡ ys = rw (← right.zeros) (take-append-drop n ys) in
    let order = padded_order (take m xs) (take n ys) (20 - m) (20 - n) (omega (arith, left.within, right.within)) in
    rw (xs_is, ys_is, m_size, n_size) at order

-- the order by the three fields, one behind the other
pub disc_order-fields : (one other : Disc) →
    ordering_then (nat_cmp one.class other.class) (ordering_then (slice_cmp nat_cmp one.address other.address) (nat_cmp one.size other.size)) ≡
    disc_order one.class (take one.size one.address) other.class (take other.size other.address)
disc_order-fields one other =
    ap (ordering_then (nat_cmp one.class other.class)) (address_order one.address other.address one.size other.size one.is_address other.is_address)
