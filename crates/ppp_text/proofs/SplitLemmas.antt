-- Facts on a text in two.
use Rattle.std.proofs.Common.{◌≡◌, ◌≢◌, ℕ, ◌-◌, ◌<◌, ◌≤◌, Bool, true, false, cond, List, ◌∷◌, ◌++◌, length, take, drop, get_or, refl, ◌∙◌, ap, arith, take_all, length-drop, drop-drop}
use Rattle.std.specs.Prelude.{Some, None, position, ◌==◌, nat_lt, All}
use Rattle.std.specs.List.{position_or_len, before_first, after_first}
use Rattle.std.proofs.lemmas.Bool.{eqb-true, eqb-false, ne_eqb, ltb-true, ltb-false}
use Rattle.std.proofs.lemmas.List.Elements.{All-weaker}
use Rattle.std.proofs.lemmas.List.Sums.{split_at_first, fails_before_first, passes_at_first}
use Rattle.std.proofs.lemmas.Grind.{common_steps}
use Rattle.ppp_text.specs.Split.{IsSplit}

-- what `position` answers
some_at : (at size n : ℕ) (below : Bool) → nat_lt at size ≡ below → cond below (Some at) None ≡ Some n → (at ≡ n) × (n < size)
some_at at size n true test is = let same : at ≡ n = cc in (same, let below = ltb-true at size test in omega arith)
some_at at size n false test is = absurd (cc)

none_at : (at size : ℕ) (below : Bool) → nat_lt at size ≡ below → cond below (Some at) None ≡ None → size ≤ at
none_at at size true test is = absurd (cc)
none_at at size false test is = ltb-false at size test

others_first : (octet : ℕ) (text : List ℕ) → All (λ x. x ≢ octet) (before_first (λ x. x == octet) text)
others_first octet text = λ k d l.
    let fails = fails_before_first (λ x. x == octet) text k d (grind (arith, common_steps)) in
    eqb-false _ octet (grind (arith, common_steps))

pub IsSplit-position : (octet n : ℕ) (text before behind : List ℕ) → position (λ x. x == octet) text ≡ Some n → before ≡ take n text → behind ≡ drop n text →
    IsSplit octet text before (take (length behind - 1) (drop 1 behind))
IsSplit-position octet n text before behind is before_is behind_is =
    let found = some_at (position_or_len (λ x. x == octet) text) (length text) n _ refl is in
    let there : position_or_len (λ x. x == octet) text < length text = omega (arith, found.0, found.1) in
    let front : before ≡ before_first (λ x. x == octet) text = rw found.0 before_is in
    let back : take (length behind - 1) (drop 1 behind) ≡ after_first (λ x. x == octet) text =
    rw (found.0, behind_is, take_all (length (drop n text) - 1) (drop 1 (drop n text)) (omega (arith, length-drop 1 (drop n text))), drop-drop) refl in
    let here = eqb-true (get_or text (position_or_len (λ x. x == octet) text) 0) octet (passes_at_first (λ x. x == octet) text 0 there) in
    record {
      text_is = split_at_first (λ x. x == octet) text 0 there ∙ ap (λ x. before_first (λ y. y == octet) text ++ x ∷ after_first (λ y. y == octet) text) here ∙ rw (front, back) refl;
      first = rw front (others_first octet text);
    }

pub position_none : (octet : ℕ) (text : List ℕ) → position (λ x. x == octet) text ≡ None → All (λ x. x ≢ octet) text
position_none octet text is = λ k d l.
    let none = none_at (position_or_len (λ x. x == octet) text) (length text) _ refl is in
    eqb-false _ octet (fails_before_first (λ x. x == octet) text k d (omega arith))

pub others_fail : (octet : ℕ) (text : List ℕ) → All (λ x. x ≢ octet) text → All (λ x. (x == octet) ≡ false) text
others_fail octet text others = All-weaker (λ x. x ≢ octet) (λ x. (x == octet) ≡ false) (λ x. ne_eqb x octet) text others
