-- Facts on octets and their hex digits.
use Rattle.std.proofs.Common.{◌≡◌, ◌≢◌, ℕ, zero, suc, ◌+◌, ◌*◌, ◌/◌, ◌%◌, ◌<◌, ◌==◌, ◌&&◌, Bool, true, false, inl, inr, List, [], ◌∷◌, length, slice_index, refl, sym, ◌∙◌, ap, arith}
use Rattle.std.specs.Prelude.{Option, Some, None, option_map, unwrap_or, Result, Ok, Err, All, if◌then◌else◌}
use Rattle.std.specs.Char.{to_ascii_lowercase}
use Rattle.std.specs.Str.{str_to_ascii_lowercase}
use Rattle.std.proofs.lemmas.Bool.{and_parts, cases_lt, eqb-true, le-leb}
use Rattle.std.proofs.lemmas.List.Elements.{All-weaker}
use Rattle.hex.specs.declared.error.FromHexError.{FromHexError}
use Rattle.hex.specs.Hex.{decode_of, decode_pairs, digit_or_error, encode_lower, encode_with, hex_digit_value, is_hex_digit, lower_digits, pair_value, value_at, ◌>>=◌}
use Rattle.hex.proofs.HexLemmas.{decode_of-encode_lower, decode_of-even, decode_of-ok}
use Rattle.ppp_script.specs.declared.line_why.LineWhy.TheVariants as why
use Rattle.ppp_script.specs.declared.octets.TheConstants.{MOST_OCTETS}
use Rattle.ppp_script.specs.Octets.{if_decoded, octets_in, IsOctets}

-- ---- a digit in lower case is the digit of its value

abbrev is_lowered : ℕ → Bool
is_lowered c = unwrap_or (option_map (λ v. to_ascii_lowercase c == slice_index lower_digits v) (hex_digit_value c)) true

abbrev all_lowered : ℕ → Bool
all_lowered zero = true
all_lowered (suc n) = is_lowered n && all_lowered n

all_lowered-at : (n k : ℕ) → all_lowered n ≡ true → k < n → is_lowered k ≡ true
all_lowered-at zero k h below = absurd (omega arith)
all_lowered-at (suc n) k h below =
    let parts = and_parts (is_lowered n) (all_lowered n) h in
    elim (cases_lt k n) [
      | inl less ↦ all_lowered-at n k parts.1 less
      | inr top ↦
          let same : k ≡ n = omega arith in
          rw same parts.0
    ]

small : (c v : ℕ) → hex_digit_value c ≡ Some v → c < 103
small c v h = grind (arith)

hex_digit_value-small : (c v : ℕ) → hex_digit_value c ≡ Some v → v < 16
hex_digit_value-small c v h = grind (arith)

lowered : (c v : ℕ) → hex_digit_value c ≡ Some v → to_ascii_lowercase c ≡ slice_index lower_digits v
lowered c v h =
    let test : is_lowered c ≡ true = all_lowered-at 103 c refl (small c v h) in
    let at_value : (to_ascii_lowercase c == slice_index lower_digits v) ≡ true = rw h at test in
    eqb-true _ _ at_value

lowered_read : (c i v : ℕ) → value_at c i ≡ Ok v → to_ascii_lowercase c ≡ slice_index lower_digits v
lowered_read c i v = by_value (hex_digit_value c) refl where
  by_value : (o : Option ℕ) → hex_digit_value c ≡ o → digit_or_error c i o ≡ Ok v → to_ascii_lowercase c ≡ slice_index lower_digits v
  by_value None value is = absurd (cc)
  by_value (Some w) value is = let same : w ≡ v = cc in lowered c w value ∙ ap (slice_index lower_digits) same

-- the value of a digit is below 16
below_16 : (c i v : ℕ) → value_at c i ≡ Ok v → v < 16
below_16 c i v = by_value (hex_digit_value c) refl where
  by_value : (o : Option ℕ) → hex_digit_value c ≡ o → digit_or_error c i o ≡ Ok v → v < 16
  by_value None value is = absurd (cc)
  by_value (Some w) value is = let same : w ≡ v = cc in rw (← same) (hex_digit_value-small c w value)

-- ---- digits in lower case are those of the octets

-- what a step of a reader that went well shows
inside : {A B : Type 0} (r : Result A FromHexError) (f : A → Result B FromHexError) (y : B) → (r >>= f) ≡ Ok y → (x : A) × ((r ≡ Ok x) × (f x ≡ Ok y))
inside (Ok x) f y is = (x, (refl, is))
inside (Err e) f y is = absurd (cc)

lowered_pairs : (i : ℕ) (text octets : List ℕ) → decode_pairs i text ≡ Ok octets → str_to_ascii_lowercase text ≡ encode_lower octets
unfolding decode_pairs encode_with
lowered_pairs i [] octets is = let none : [] ≡ octets = cc in rw (← none) refl
lowered_pairs i (digit ∷ []) octets is = absurd (cc)
lowered_pairs i (high ∷ low ∷ text) octets is =
    let pair = inside (pair_value high low i) _ octets is in
    let more = inside (decode_pairs (i + 2) text) _ octets pair.1.1 in
    let h = inside (value_at high i) _ pair.0 pair.1.0 in
    let l = inside (value_at low (i + 1)) _ pair.0 h.1.1 in
    let made : pair.0 ∷ more.0 ≡ octets = cc in
    let value : h.0 * 16 + l.0 ≡ pair.0 = cc in
    let small_h = below_16 high i h.0 h.1.0 in
    let small_l = below_16 low (i + 1) l.0 l.1.0 in
    let first : pair.0 / 16 ≡ h.0 = omega arith in
    let second : pair.0 % 16 ≡ l.0 = omega arith in
    rw (← made, lowered_read high i h.0 h.1.0, lowered_read low (i + 1) l.0 l.1.0, lowered_pairs (i + 2) text more.0 more.1.0, first, second) refl

-- ---- octets and their field

octets_if : (decoded : Result (List ℕ) FromHexError) (octets : List ℕ) → if_decoded decoded ≡ Ok octets → decoded ≡ Ok octets
octets_if (Err e) octets is = absurd (cc)
octets_if (Ok read) octets is = ap (λ x. Ok x) (picked _ is) where
  picked : (t : Bool) → (if t then Ok read else Err why.Event) ≡ Ok octets → read ≡ octets
  picked true is = cc
  picked false is = absurd (cc)

-- what reads as octets is their digits, but for their case
pub octets_in-lower : (field octets : List ℕ) → octets_in field ≡ Ok octets → str_to_ascii_lowercase field ≡ encode_lower octets
unfolding octets_in
octets_in-lower field octets is =
    let decoded = octets_if (decode_of field) octets is in
    lowered_pairs 0 field octets (sym (decode_of-even field (decode_of-ok field octets decoded).0) ∙ decoded)

-- the digits of octets read as them
pub octets_in-digits : (octets : List ℕ) → IsOctets octets → octets_in (encode_lower octets) ≡ Ok octets
unfolding octets_in
octets_in-digits octets is =
    rw (decode_of-encode_lower octets is.bytes, le-leb 1 (length octets) is.some, le-leb (length octets) MOST_OCTETS is.few) refl

other_than_space : (x : ℕ) → is_hex_digit x ≡ true → x ≢ 32
other_than_space x digit = λ same. absurd (cc (rw same at digit))

-- digits have no space
pub digits_spaceless : (octets : List ℕ) → IsOctets octets → All (λ x. x ≢ 32) (encode_lower octets)
digits_spaceless octets is =
    let digits = (decode_of-ok (encode_lower octets) octets (decode_of-encode_lower octets is.bytes)).1 in
    All-weaker (λ x. is_hex_digit x ≡ true) (λ x. x ≢ 32) other_than_space (encode_lower octets) digits
