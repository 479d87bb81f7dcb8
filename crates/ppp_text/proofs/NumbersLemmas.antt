-- Facts on decimal numbers.
use Rattle.std.proofs.Common.{rules, ◌≡◌, ◌≢◌, ℕ, zero, suc, ◌+◌, ◌-◌, ◌*◌, ◌^◌, ◌<◌, ◌≤◌, Bool, true, false, cond, List, [], ◌∷◌, length, drop, get_or, refl, sym, ◌∙◌, ap, arith, add-one, drop-cons}
use Rattle.std.specs.Prelude.{Option, All, nat_le, Some, None, ◌==◌, ◌&&◌, not}
use Rattle.std.specs.List.{list_all}
use Rattle.std.specs.Char.{is_ascii_digit, digit_value}
use Rattle.std.specs.Fmt.{decimal}
use Rattle.std.specs.Str.Parse.{digits_value, digits_value_after}
use Rattle.std.proofs.lemmas.Bool.{le-leb, leb-true, ne_eqb}
use Rattle.std.proofs.lemmas.Bool.Decides.{nat_tests}
use Rattle.std.proofs.lemmas.Fmt.{digits_decimal, digits_value-decimal, decimal-digits_value, decimal_digit, decimal_nonempty, first_decimal}
use Rattle.std.proofs.lemmas.List.Sums.{AllPass-from_list_all}
use Rattle.std.proofs.lemmas.Grind.{common_steps}
use Rattle.std.proofs.lemmas.Str.Parse.{IsNumeralModel, numerals_by_value}
use Rattle.ppp_text.specs.Numbers.{has_leading_zero, is_number, number_of, within, number_in}

abbrev AllDigits : List ℕ → Type 0
AllDigits field = list_all is_ascii_digit field ≡ true

own : IsNumeralModel AllDigits (digits_value 10)
own = numerals_by_value AllDigits (search rules)

digit_range : (x : ℕ) → is_ascii_digit x ≡ true → (48 ≤ x) × (x ≤ 57)
digit_range x is = grind arith

pub digit_at : (xs : List ℕ) (i : ℕ) → AllDigits xs → i < length xs → (48 ≤ get_or xs i 0) × (get_or xs i 0 ≤ 57)
digit_at xs i all in_range = digit_range (get_or xs i 0) (AllPass-from_list_all is_ascii_digit xs all i 0 in_range)

digit_is : (x : ℕ) → 48 ≤ x → x ≤ 57 → digit_value x ≡ x - 48
digit_is x low high = grind (arith, nat_tests)

pub value-next : (n i : ℕ) (xs : List ℕ) → AllDigits xs → i < length xs →
    digits_value_after 10 n (drop i xs) ≡ digits_value_after 10 (n * 10 + (get_or xs i 0 - 48)) (drop (i + 1) xs)
value-next n i xs all in_range =
    let digit = digit_at xs i all in_range in
    rw (add-one, drop-cons xs i 0, ← digit_is (get_or xs i 0) digit.0 digit.1) refl

-- more digits make a number no smaller
pub value-least : (n : ℕ) (xs : List ℕ) → n ≤ digits_value_after 10 n xs
value-least n [] = omega arith
value-least n (x ∷ xs) = let more = value-least (n * 10 + digit_value x) xs in omega arith

pub value-nil : (n : ℕ) (xs : List ℕ) → length xs ≡ 0 → digits_value_after 10 n xs ≡ n
value-nil n [] none = refl
value-nil n (x ∷ xs) none = absurd (omega arith)

-- what a number is made of
record IsNumber (field : List ℕ) : Type 0 where
  all : AllDigits field
  some : 0 < length field
  leading : get_or field 0 0 ≡ 48 → length field ≡ 1

both : (a b : Bool) → (a && b) ≡ true → (a ≡ true) × (b ≡ true)
both true b is = (refl, is)
both false b is = absurd (cc)

IsNumber-is_number : (field : List ℕ) → is_number field ≡ true → IsNumber field
IsNumber-is_number field is =
    let parts = both _ (not (has_leading_zero field)) is in
    let digits = both (not (length field == 0)) (list_all is_ascii_digit field) parts.0 in
    record { all = digits.1; some = grind (arith, nat_tests); leading = λ zero. grind (arith, nat_tests) }

is_number-IsNumber : (field : List ℕ) → IsNumber field → is_number field ≡ true
is_number-IsNumber field is =
    let some : (length field == 0) ≡ false = ne_eqb (length field) 0 (λ none. omega arith) in
    let other : has_leading_zero field ≡ false = grind (arith, nat_tests, is.leading) in
    rw (some, is.all, other) refl

pub decimal-number_of : (field : List ℕ) (n : ℕ) → n < 2 ^ 64 → number_of field ≡ Some n → field ≡ decimal n
unfolding number_of
decimal-number_of field n fits = by_test (is_number field) refl where
  by_test : (t : Bool) → is_number field ≡ t → cond t (Some (digits_value 10 field)) None ≡ Some n → field ≡ decimal n
  by_test true test is =
      let value : digits_value 10 field ≡ n = cc in
      let number = IsNumber-is_number field test in
      sym (decimal-digits_value own field number.all number.some number.leading (omega arith)) ∙ ap decimal value
  by_test false test is = absurd (cc)

first_zero : (n : ℕ) → n < 2 ^ 64 → get_or (decimal n) 0 0 ≡ 48 → length (decimal n) ≡ 1
first_zero zero fits is = rw (decimal_digit 0 (omega arith)) refl
first_zero (suc n) fits is = absurd (omega (arith, first_decimal (suc n) (omega arith) fits))

pub number_of-decimal : (n : ℕ) → n < 2 ^ 64 → number_of (decimal n) ≡ Some n
unfolding number_of
number_of-decimal n fits =
    let number : IsNumber (decimal n) = record { all = digits_decimal own n fits; some = decimal_nonempty n fits; leading = first_zero n fits } in
    rw (is_number-IsNumber (decimal n) number, digits_value-decimal own n fits) refl

pub number_in-decimal : (least most n : ℕ) → least ≤ n → n ≤ most → n < 2 ^ 64 → number_in least most (decimal n) ≡ Some n
unfolding number_in
number_in-decimal least most n low high fits = rw (number_of-decimal n fits, le-leb least n low, le-leb n most high) refl

pub decimal-number_in : (least most n : ℕ) (field : List ℕ) → most < 2 ^ 64 → number_in least most field ≡ Some n → field ≡ decimal n
unfolding number_in
decimal-number_in least most n field fits = by_found (number_of field) refl where
  by_test : (m : ℕ) (t : Bool) → (nat_le least m && nat_le m most) ≡ t → number_of field ≡ Some m → cond t (Some m) None ≡ Some n → field ≡ decimal n
  by_test m true test found is =
      let same : m ≡ n = cc in
      let high = leb-true m most (both (nat_le least m) (nat_le m most) test).1 in
      decimal-number_of field m (omega arith) found ∙ ap decimal same
  by_test m false test found is = absurd (cc)

  by_found : (found : Option ℕ) → number_of field ≡ found → within least most found ≡ Some n → field ≡ decimal n
  by_found None found is = absurd (cc)
  by_found (Some m) found is = by_test m _ refl found is

-- no octet of a number is this one, which is no digit
pub lacks-decimal : (octet n : ℕ) → n < 2 ^ 64 → octet < 48 → All (λ x. x ≢ octet) (decimal n)
lacks-decimal octet n fits other = λ i d in_range.
    let digit = digit_at (decimal n) i (digits_decimal own n fits) in_range in
    let same : get_or (decimal n) i d ≡ get_or (decimal n) i 0 = grind (arith, common_steps) in
    λ is. omega (arith, same, is, digit.0)
