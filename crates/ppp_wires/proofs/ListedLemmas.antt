-- What a list of numbers gives next is put behind what it gave.
use Rattle.std.proofs.Common.{◌≡◌, ℕ, suc, Bool, true, false, nat_lt, List, [], ◌∷◌, refl, ap, arith}
use Rattle.std.specs.Prelude.{Some, None, if◌then◌else◌}
use Rattle.std.proofs.lemmas.Bool.Decides.{nat_tests}
use Rattle.ppp_io.specs.Account.{PutsOn}
use Rattle.ppp_io.specs.Fault.{greatest_count, one_more}
use Rattle.ppp_wires.specs.Listed.{given, given_all, given_if_told}

-- what is told after a call was told before it, and is longer by the number given
tells : (list : List ℕ) (calls next : ℕ) (now later : Bool) → (later ≡ true → (now ≡ true) × (next ≡ suc calls)) → PutsOn (if now then Some (given_all list calls) else None) (if later then Some (given_all list next) else None) (given list calls ∷ [])
tells list calls next now false follows = tt
tells list calls next false true follows = let e : false ≡ true = (follows refl).0 in cc
tells list calls next true true follows = ap (given_all list) (follows refl).1

told-before : (calls : ℕ) → nat_lt (one_more calls) greatest_count ≡ true → nat_lt calls greatest_count ≡ true
told-before calls later = grind (arith, nat_tests)

one-more-below : (calls : ℕ) → nat_lt (one_more calls) greatest_count ≡ true → one_more calls ≡ suc calls
one-more-below calls later = grind (arith, nat_tests)

pub given-told : (list : List ℕ) (calls : ℕ) → PutsOn (given_if_told (record { list = list; calls = calls })) (given_if_told (record { list = list; calls = one_more calls })) (given list calls ∷ [])
given-told list calls = tells list calls (one_more calls) _ _ (λ later. (told-before calls later, one-more-below calls later))
