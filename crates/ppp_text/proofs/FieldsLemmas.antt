-- Facts on the fields of a line.
use Rattle.std.proofs.Common.{◌≡◌, ◌≢◌, ℕ, List, [], ◌∷◌, length, refl, ap, ◌∙◌, arith}
use Rattle.std.specs.Prelude.{◌==◌, All, Option, Some, None, Bool, true, false, not, is_some, IsTrue, ◌↔◌}
use denote.Ref.{Bor}
use Rattle.std.proofs.lemmas.List.Elements.{All-head, All-tail, All-weaker}
use Rattle.std.proofs.lemmas.List.Sums.{AllPass-from_list_all}
use Rattle.std.proofs.lemmas.Bool.{eqb-false}
use Rattle.std.specs.List.{list_all}
use Rattle.std.proofs.lemmas.List.Splits.{slice_split_at, slice_split_none, length-slice_split, join_with_byte-slice_split}
use Rattle.ppp_text.specs.Fields.{fields_of, line_with, fields_behind}
use Rattle.ppp_text.specs.Split.{IsSplit}
use Rattle.ppp_text.proofs.SplitLemmas.{others_fail}

pub fields_of-first : (text before behind : List ℕ) → IsSplit 32 text before behind → fields_of text ≡ before ∷ fields_of behind
unfolding fields_of
fields_of-first text before behind split =
    ap fields_of split.text_is ∙ slice_split_at (λ x. x == 32) before 32 behind (others_fail 32 before split.first) refl

pub fields_of-last : (text : List ℕ) → All (λ x. x ≢ 32) text → fields_of text ≡ text ∷ []
unfolding fields_of
fields_of-last text others = slice_split_none (λ x. x == 32) text (others_fail 32 text others)

-- a line has a field
pub some_field : (text : List ℕ) → fields_of text ≢ []
unfolding fields_of
some_field text none = omega (arith, ap length none, length-slice_split (λ x. x == 32) text)

-- what a test for no field says
pub done : (left : Option (Bor (List ℕ))) (none : Bool) → is_some left ≡ not none → IsTrue none ↔ (fields_behind left ≡ [])
done None true is = (λ yes. refl, λ e. refl)
done None false is = absurd (cc)
done (Some text) true is = absurd (cc)
done (Some text) false is = (λ yes. absurd (cc), λ e. absurd (some_field text.now e))

pub line_with-fields_of : (line : List ℕ) → line_with (fields_of line) ≡ line
unfolding fields_of
line_with-fields_of line = join_with_byte-slice_split 32 line

pub fields_of-line_with : (field : List ℕ) (more : List (List ℕ)) → All (λ part. All (λ x. x ≢ 32) part) (field ∷ more) → fields_of (line_with (field ∷ more)) ≡ field ∷ more
fields_of-line_with field [] others = fields_of-last field (All-head (λ part. All (λ x. x ≢ 32) part) field [] others)
fields_of-line_with field (next ∷ more) others =
    fields_of-first _ field (line_with (next ∷ more)) (record { text_is = refl; first = All-head (λ part. All (λ x. x ≢ 32) part) field (next ∷ more) others })
    ∙ ap (λ fields. field ∷ fields) (fields_of-line_with next more (All-tail (λ part. All (λ x. x ≢ 32) part) field (next ∷ more) others))

-- a literal without a space: the test computes
pub spaceless : (field : List ℕ) → list_all (λ x. not (x == 32)) field ≡ true → All (λ x. x ≢ 32) field
spaceless field test = All-weaker (λ x. not (x == 32) ≡ true) (λ x. x ≢ 32) (λ x other. eqb-false x 32 (not-true _ other)) field (AllPass-from_list_all (λ x. not (x == 32)) field test) where
  not-true : (b : Bool) → not b ≡ true → b ≡ false
  not-true true is = absurd (cc)
  not-true false is = refl
