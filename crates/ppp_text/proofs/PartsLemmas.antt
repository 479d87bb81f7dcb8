-- Facts on the parts of an input.
use Rattle.std.proofs.Common.{◌≡◌, ℕ, suc, ◌+◌, ◌-◌, false, true, List, [], ◌∷◌, ◌++◌, length, take, refl, sym, ◌∙◌, ap, arith, append_assoc, length-append, append-nil}
use Rattle.std.specs.Prelude.{not}
use Rattle.std.specs.List.{prefix_len}
use Rattle.std.proofs.lemmas.List.{take_at}
use Rattle.ppp_text.specs.Lines.{lines_of, pieces_of, FirstLine}
use Rattle.ppp_text.specs.Parts.{is_parting, settings_in, script_in}
use Rattle.ppp_text.proofs.LinesLemmas.{concat-pieces_of}

-- an input that is read up to here: what stands before is settings, and what is left decides
pub record Passed (text front rest : List ℕ) : Type 0 where
  pub text_is : text ≡ front ++ rest
  pub settings : settings_in text ≡ front ++ settings_in rest
  pub script : script_in text ≡ script_in rest

pub Passed-none : (text : List ℕ) → Passed text [] text
Passed-none text = record { text_is = refl; settings = refl; script = refl }

settings_step : (text line behind : List ℕ) (f : FirstLine text line behind) → is_parting line ≡ false → settings_in text ≡ f.piece ++ settings_in behind
unfolding settings_in
settings_step text line behind f other =
    let e : 1 + prefix_len (λ x. not (is_parting x)) (lines_of behind) ≡ suc (prefix_len (λ x. not (is_parting x)) (lines_of behind)) = omega arith in
    rw (f.lines, f.pieces, other, e) refl

script_step : (text line behind : List ℕ) → FirstLine text line behind → is_parting line ≡ false → script_in text ≡ script_in behind
unfolding script_in
script_step text line behind f other =
    let e : 1 + prefix_len (λ x. not (is_parting x)) (lines_of behind) + 1 ≡ suc (prefix_len (λ x. not (is_parting x)) (lines_of behind) + 1) = omega arith in
    rw (f.lines, f.pieces, other, e) refl

settings_end : (text line behind : List ℕ) → FirstLine text line behind → is_parting line ≡ true → settings_in text ≡ []
unfolding settings_in
settings_end text line behind f is = rw (f.lines, f.pieces, is) refl

script_end : (text line behind : List ℕ) → FirstLine text line behind → is_parting line ≡ true → script_in text ≡ behind
unfolding script_in
script_end text line behind f is = rw (f.lines, f.pieces, is) (concat-pieces_of behind)

pub Passed-line : (text front rest line behind : List ℕ) → Passed text front rest → (f : FirstLine rest line behind) → is_parting line ≡ false → Passed text (front ++ f.piece) behind
Passed-line text front rest line behind passed f other = record {
  text_is = passed.text_is ∙ ap (λ r. front ++ r) f.text_is ∙ sym (append_assoc front f.piece behind);
  settings = passed.settings ∙ ap (λ r. front ++ r) (settings_step rest line behind f other) ∙ sym (append_assoc front f.piece (settings_in behind));
  script = passed.script ∙ script_step rest line behind f other;
}

pub Passed-parting : (text front rest line behind : List ℕ) → Passed text front rest → FirstLine rest line behind → is_parting line ≡ true → (settings_in text ≡ front) × (script_in text ≡ behind)
Passed-parting text front rest line behind passed f is = (
  passed.settings ∙ ap (λ r. front ++ r) (settings_end rest line behind f is) ∙ append-nil front,
  passed.script ∙ script_end rest line behind f is,
)

pub Passed-all : (text front rest : List ℕ) → Passed text front rest → length rest ≡ 0 → (settings_in text ≡ text) × (script_in text ≡ rest)
unfolding settings_in script_in lines_of pieces_of
Passed-all text front [] passed none = (passed.settings ∙ sym passed.text_is, passed.script)
Passed-all text front (x ∷ xs) passed none = absurd (omega arith)

-- the settings before what is left
pub Passed-front : (text front rest : List ℕ) → Passed text front rest → take (length text - length rest) text ≡ front
Passed-front text front rest passed =
    let size : length front ≡ length text - length rest = omega (arith, ap length passed.text_is, length-append front rest) in
    ap (take (length text - length rest)) passed.text_is ∙ take_at front rest (length text - length rest) size
