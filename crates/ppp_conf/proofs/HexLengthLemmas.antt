-- How many octets digits have.
use Rattle.std.proofs.Common.{◌≡◌, ℕ, ◌+◌, ◌*◌, Bool, true, false, List, [], ◌∷◌, length, refl, sym, ap, ◌∙◌, arith}
use Rattle.std.specs.Prelude.{Some, None, Result, Ok, Err, if◌then◌else◌}
use Rattle.std.specs.List.{list_all}
use Rattle.std.specs.Result.{result_ok}
use Rattle.hex.specs.Hex.{decode_pairs, decode_sized, pair_value, ◌>>=◌}
use Rattle.hex.specs.declared.error.FromHexError.{FromHexError}
use Rattle.hex.proofs.HexLemmas.{decode_of-even, decode_sized-ok, decode_sized-twice}
use Rattle.ppp_conf.specs.HexText.{hex_octets, is_lower_digit}

-- the pairs that are left, put behind the first
abbrev pairs_by : Result ℕ FromHexError → Result (List ℕ) FromHexError → Result (List ℕ) FromHexError
pairs_by (Ok byte) (Ok bytes) = Ok (byte ∷ bytes)
pairs_by (Ok byte) (Err e) = Err e
pairs_by (Err e) rest = Err e

pairs_next : (i high low : ℕ) (rest : List ℕ) → decode_pairs i (high ∷ low ∷ rest) ≡ pairs_by (pair_value high low i) (decode_pairs (i + 2) rest)
unfolding decode_pairs
pairs_next i high low rest = by (pair_value high low i) (decode_pairs (i + 2) rest)
  where
    by : (p : Result ℕ FromHexError) (r : Result (List ℕ) FromHexError) → (p >>= λ byte. r >>= λ bytes. Ok (byte ∷ bytes)) ≡ pairs_by p r
    by (Ok byte) (Ok bytes) = refl
    by (Ok byte) (Err e) = refl
    by (Err e) r = refl

pairs_long : (i : ℕ) (s bytes : List ℕ) → decode_pairs i s ≡ Ok bytes → length s ≡ 2 * length bytes
unfolding decode_pairs
pairs_long i [] bytes e = none bytes (cc)
  where
    none : (bs : List ℕ) → [] ≡ bs → 0 ≡ 2 * length bs
    none [] same = refl
    none (b ∷ bs) same = absurd (cc)
pairs_long i (digit ∷ []) bytes e = absurd (cc)
pairs_long i (high ∷ low ∷ rest) bytes e =
    by (pair_value high low i) (decode_pairs (i + 2) rest) refl (sym (pairs_next i high low rest) ∙ e) (pairs_long (i + 2) rest)
  where
    by : (p : Result ℕ FromHexError) (r : Result (List ℕ) FromHexError) → decode_pairs (i + 2) rest ≡ r → pairs_by p r ≡ Ok bytes →
        ((bs : List ℕ) → decode_pairs (i + 2) rest ≡ Ok bs → length rest ≡ 2 * length bs) → length (high ∷ low ∷ rest) ≡ 2 * length bytes
    by (Ok byte) (Ok bs) is whole more =
        let same : byte ∷ bs ≡ bytes = cc in
        let size = more bs is in
        let long = ap length same in
        omega (arith, size, long)
    by (Ok byte) (Err why) is whole more = absurd (cc)
    by (Err why) r is whole more = absurd (cc)

read_ok : (r : Result (List ℕ) FromHexError) (octets : List ℕ) → result_ok r ≡ Some octets → r ≡ Ok octets
read_ok (Ok xs) octets e = cc
read_ok (Err why) octets e = absurd (cc)

decoded : (b : Bool) (size : ℕ) (text octets : List ℕ) → (if b then result_ok (decode_sized text size) else None) ≡ Some octets → decode_sized text size ≡ Ok octets
decoded true size text octets e = read_ok (decode_sized text size) octets e
decoded false size text octets e = absurd (cc)

-- so many octets are read as were asked for
pub hex_octets-length : (size : ℕ) (text octets : List ℕ) → hex_octets size text ≡ Some octets → length octets ≡ size
unfolding hex_octets
hex_octets-length size text octets e =
    let is = decoded (list_all is_lower_digit text) size text octets e in
    let twice = decode_sized-ok text size octets is in
    let pairs : decode_pairs 0 text ≡ Ok octets = sym (decode_of-even text (omega (arith, twice))) ∙ sym (decode_sized-twice text size twice) ∙ is in
    omega (arith, twice, pairs_long 0 text octets pairs)
