-- Facts on lines.
use Rattle.std.proofs.Common.{◌≡◌, ◌≢◌, inl, inr, ℕ, ◌-◌, ◌<◌, cond, List, [], ◌∷◌, ◌++◌, length, take, get_or, refl, sym, ◌∙◌, ap, arith, append-nil, length-append}
use Rattle.std.specs.Prelude.{◌==◌, All}
use Rattle.std.specs.List.{slice_split, concat, join_with_byte}
use Rattle.std.specs.Str.Lines.{StripsCarriageReturn, strip_carriage_return, lines_of_parts, lines}
use Rattle.std.proofs.lemmas.Bool.{eq-eqb, ne_eqb}
use Rattle.std.proofs.lemmas.List.Splits.{slice_split_at, slice_split_none, length-slice_split, join_with_byte-slice_split}
use Rattle.std.proofs.lemmas.Grind.{common_steps}
use Rattle.ppp_text.specs.Lines.{lines_of, with_feeds, pieces_of, FirstLine}
use Rattle.ppp_text.specs.Split.{IsSplit}
use Rattle.ppp_text.proofs.SplitLemmas.{others_fail}

stripped : (front line : List ℕ) → StripsCarriageReturn front line → strip_carriage_return front ≡ line
stripped [] line (inl same) = sym same.0
stripped (x ∷ xs) line (inl same) = ap (λ t. cond t (take (length (x ∷ xs) - 1) (x ∷ xs)) (x ∷ xs)) (ne_eqb _ 13 (same.1 (omega arith))) ∙ sym same.0
stripped front line (inr is) =
    let last : get_or front (length front - 1) 0 ≡ 13 = grind (arith, common_steps) in
    let kept : take (length front - 1) front ≡ line = grind (arith, common_steps) in
    ap (λ t. cond t (take (length front - 1) front) front) (eq-eqb _ 13 last) ∙ kept

lines-cons : (part : List ℕ) (parts : List (List ℕ)) → 0 < length parts → lines_of_parts (part ∷ parts) ≡ strip_carriage_return part ∷ lines_of_parts parts
lines-cons part [] some = absurd (omega arith)
lines-cons part (next ∷ more) some = refl

feeds-cons : (part : List ℕ) (parts : List (List ℕ)) → 0 < length parts → with_feeds (part ∷ parts) ≡ (part ++ 10 ∷ []) ∷ with_feeds parts
feeds-cons part [] some = absurd (omega arith)
feeds-cons part (next ∷ more) some = refl

some_parts : (text : List ℕ) → 0 < length (slice_split (λ x. x == 10) text)
some_parts text = omega (arith, length-slice_split (λ x. x == 10) text)

pub first_line : (text before line behind : List ℕ) → IsSplit 10 text before behind → StripsCarriageReturn before line → FirstLine text line behind
unfolding lines_of pieces_of
first_line text before line behind split strips =
    let parts : slice_split (λ x. x == 10) text ≡ before ∷ slice_split (λ x. x == 10) behind =
    ap (slice_split (λ x. x == 10)) split.text_is ∙ slice_split_at (λ x. x == 10) before 10 behind (others_fail 10 before split.first) refl in
    record {
      lines = ap lines_of_parts parts ∙ lines-cons before _ (some_parts behind) ∙ ap (λ l. l ∷ lines behind) (stripped before line strips);
      piece = before ++ 10 ∷ [];
      pieces = ap with_feeds parts ∙ feeds-cons before _ (some_parts behind);
      text_is = split.text_is ∙ grind (arith, common_steps);
      some = omega (arith, length-append before (10 ∷ []));
    }

pub last_line : (text : List ℕ) → 0 < length text → All (λ x. x ≢ 10) text → FirstLine text text []
unfolding lines_of pieces_of
last_line text some others =
    let parts = slice_split_none (λ x. x == 10) text (others_fail 10 text others) in
    let full = ne_eqb (length text) 0 (λ none. omega arith) in
    record {
      lines = ap lines_of_parts parts ∙ ap (λ t. cond t [] (text ∷ [])) full;
      piece = text;
      pieces = ap with_feeds parts ∙ ap (λ t. cond t [] (text ∷ [])) full;
      text_is = sym (append-nil text);
      some = some;
    }

pub FirstLine-shorter : (text line behind : List ℕ) → FirstLine text line behind → length behind < length text
FirstLine-shorter text line behind f = omega (arith, f.some, ap length f.text_is, length-append f.piece behind)

pub lines_of-nil : (text : List ℕ) → length text ≡ 0 → lines_of text ≡ []
unfolding lines_of
lines_of-nil [] none = refl
lines_of-nil (x ∷ xs) none = absurd (omega arith)

concat-feeds : (parts : List (List ℕ)) → concat (with_feeds parts) ≡ join_with_byte 10 parts
concat-feeds [] = refl
concat-feeds ([] ∷ []) = refl
concat-feeds ((x ∷ xs) ∷ []) = ap (λ t. concat (cond t [] ((x ∷ xs) ∷ []))) (ne_eqb (length (x ∷ xs)) 0 (λ none. omega arith)) ∙ append-nil (x ∷ xs)
concat-feeds (part ∷ next ∷ more) = let rest = concat-feeds (next ∷ more) in grind (arith, common_steps)

pub concat-pieces_of : (text : List ℕ) → concat (pieces_of text) ≡ text
unfolding pieces_of
concat-pieces_of text = concat-feeds (slice_split (λ x. x == 10) text) ∙ join_with_byte-slice_split 10 text
