-- The octets of a text's lines, line by line.
use Rattle.std.proofs.Common.{◌≡◌, ◌+◌, ℕ, List, [], ◌∷◌, ◌++◌, length, refl, sym, ap, ◌∙◌, append-nil, append_assoc}
use Rattle.std.specs.Prelude.{Some, Result, Ok, Err}
use Rattle.ppp_text.specs.Lines.{lines_of}
use Rattle.ppp_text.proofs.LinesLemmas.{lines_of-nil}
use Rattle.ppp_show.specs.HexLine.{in_front, line_first, octets_from, octets_of_line, octets_of_text}

in_front-none : (read : Result (List ℕ) ℕ) → in_front [] read ≡ read
in_front-none (Ok octets) = refl
in_front-none (Err line) = refl

in_front-append : (xs ys : List ℕ) (read : Result (List ℕ) ℕ) → in_front (xs ++ ys) read ≡ in_front xs (in_front ys read)
in_front-append xs ys (Ok octets) = ap (λ all. Ok all) (append_assoc xs ys octets)
in_front-append xs ys (Err line) = refl

-- no line was read
pub read-start : (text : List ℕ) → octets_of_text text ≡ in_front [] (octets_from 1 (lines_of text))
unfolding octets_of_text
read-start text = sym (in_front-none (octets_from 1 (lines_of text)))

-- a line was read
pub read-on : (text rest line back stream octets : List ℕ) (number : ℕ) → octets_of_text text ≡ in_front stream (octets_from number (lines_of rest)) →
    lines_of rest ≡ line ∷ lines_of back → octets_of_line line ≡ Some octets → octets_of_text text ≡ in_front (stream ++ octets) (octets_from (number + 1) (lines_of back))
read-on text rest line back stream octets number read first is =
    read ∙ ap (λ lines. in_front stream (octets_from number lines)) first
    ∙ ap (λ o. in_front stream (line_first number o (octets_from (number + 1) (lines_of back)))) is
    ∙ sym (in_front-append stream octets (octets_from (number + 1) (lines_of back)))

-- all lines were read
pub read-end : (text rest stream : List ℕ) (number : ℕ) → octets_of_text text ≡ in_front stream (octets_from number (lines_of rest)) → length rest ≡ 0 → octets_of_text text ≡ Ok stream
read-end text rest stream number read none =
    read ∙ ap (λ lines. in_front stream (octets_from number lines)) (lines_of-nil rest none) ∙ ap (λ all. Ok all) (append-nil stream)
