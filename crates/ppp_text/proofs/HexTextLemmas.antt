-- Octets in hexadecimal digits, one behind the other.
use Rattle.std.proofs.Common.{◌≡◌, ℕ, ◌+◌, ◌/◌, ◌%◌, ◌<◌, List, [], ◌∷◌, ◌++◌, take, length, get_or, refl, ap}
use Rattle.std.specs.Prelude.{slice_index}
use Rattle.std.proofs.lemmas.List.{take_more}
use Rattle.hex.specs.Hex.{encode_with, encode_lower, lower_digits}

encode_with-append : (t xs ys : List ℕ) → encode_with t (xs ++ ys) ≡ encode_with t xs ++ encode_with t ys
unfolding encode_with
encode_with-append t [] ys = refl
encode_with-append t (x ∷ xs) ys = ap (λ rest. slice_index t (x / 16) ∷ slice_index t (x % 16) ∷ rest) (encode_with-append t xs ys)

pub encode-none : encode_lower [] ≡ []
unfolding encode_with
encode-none = refl

-- one octet more
pub encode-more : (octets : List ℕ) (i : ℕ) → i < length octets → let octet = get_or octets i 0 in
    encode_lower (take (i + 1) octets) ≡ encode_lower (take i octets) ++ slice_index lower_digits (octet / 16) ∷ slice_index lower_digits (octet % 16) ∷ []
unfolding encode_with
encode-more octets i below = rw (take_more octets i 0 below) (encode_with-append lower_digits (take i octets) (get_or octets i 0 ∷ []))
