-- Facts on scripts.
use Rattle.std.proofs.Common.{◌≡◌, ℕ, ◌+◌, ◌≤◌, take, zero, suc, true, false, List, [], ◌∷◌, ◌++◌, refl, sym, ◌∙◌, ap, arith, append_assoc, append-nil, subst}
use Rattle.std.specs.Prelude.{Result, Ok, Err, Some, slice_get, sum_by}
use Rattle.std.proofs.lemmas.List.Sums.{sum_by-append}
use Rattle.ppp_text.specs.Lines.{lines_of, FirstLine}
use Rattle.ppp_script.specs.declared.line_why.LineWhy.{LineWhy}
use Rattle.ppp_script.specs.declared.script_fault.ScriptFault.{ScriptFault}
use Rattle.ppp_script.specs.Line.{Form}
use Rattle.ppp_script.specs.Results.{◌>>=◌}
use Rattle.ppp_script.specs.Script.{Refusal, is_no_step, step_of, events_from, script_from, events_of}
use Rattle.ppp_script.specs.ScriptFault.{IsRefusal}

joined : {E : Type 0} (front : List E) (event : E) (read : Result (List E) Refusal) →
    ((read >>= (λ events. Ok (event ∷ events))) >>= (λ events. Ok (front ++ events))) ≡ (read >>= (λ events. Ok ((front ++ event ∷ []) ++ events)))
joined front event (Ok events) = ap (λ all. Ok all) (sym (append_assoc front (event ∷ []) events))
joined front event (Err refusal) = refl

unchanged : {E : Type 0} (read : Result (List E) Refusal) → (read >>= (λ events. Ok events)) ≡ read
unchanged (Ok events) = refl
unchanged (Err refusal) = refl

module _ {E : Type 0} (form : Form E) (links : ℕ) where
  pub script_from-remark : (number : ℕ) (front : List E) (line : List ℕ) (lines : List (List ℕ)) → is_no_step line ≡ true →
      script_from form links front number (line ∷ lines) ≡ script_from form links front (number + 1) lines
  unfolding script_from events_from
  script_from-remark number front line lines is = rw is refl

  pub script_from-step : (number : ℕ) (front : List E) (event : E) (line : List ℕ) (lines : List (List ℕ)) → is_no_step line ≡ false →
      step_of form links (sum_by form.steps front) line ≡ Ok event → script_from form links front number (line ∷ lines) ≡ script_from form links (front ++ event ∷ []) (number + 1) lines
  unfolding script_from events_from
  script_from-step number front event line lines is step =
      let steps : sum_by form.steps (front ++ event ∷ []) ≡ sum_by form.steps front + form.steps event = omega (arith, sum_by-append form.steps front (event ∷ [])) in
      rw (is, step, steps) (joined front event (events_from form links (number + 1) (sum_by form.steps front + form.steps event) lines))

  pub script_from-refused : (number : ℕ) (front : List E) (why : LineWhy) (line : List ℕ) (lines : List (List ℕ)) → is_no_step line ≡ false →
      step_of form links (sum_by form.steps front) line ≡ Err why → script_from form links front number (line ∷ lines) ≡ Err (record { line = number; why = why })
  unfolding script_from events_from
  script_from-refused number front why line lines is step = rw (is, step) refl

  pub script_from-end : (number : ℕ) (front : List E) → script_from form links front number [] ≡ Ok front
  unfolding script_from events_from
  script_from-end number front = ap (λ all. Ok all) (append-nil front)

  pub script_from-start : (text : List ℕ) → script_from form links [] 1 (lines_of text) ≡ events_of form links text
  unfolding script_from events_of
  script_from-start text = unchanged (events_from form links 1 0 (lines_of text))

  pub IsRefusal-same : (number : ℕ) (front : List E) (text line behind : List ℕ) (read : Result (List E) Refusal) (fault : ScriptFault) → FirstLine text line behind →
      script_from form links front number (lines_of text) ≡ read → IsRefusal (script_from form links front number (line ∷ lines_of behind)) fault → IsRefusal read fault
  IsRefusal-same number front text line behind read fault f same refused =
      subst (λ r. IsRefusal r fault) (ap (script_from form links front number) (sym f.lines) ∙ same) refused

-- of lines, those up to a place and the one there have no more steps than all: what a caller that goes over a script knows of the next one
pub steps-at : {E : Type 0} (steps : E → ℕ) (events : List E) (i : ℕ) (event : E) → slice_get events i ≡ Some event → sum_by steps (take i events) + steps event ≤ sum_by steps events
steps-at steps [] i event is = absurd (cc)
steps-at steps (first ∷ events) zero event is =
    let same : first ≡ event = cc in rw (← same) (omega (arith, sum_by-append steps (first ∷ []) events))
steps-at steps (first ∷ events) (suc i) event is =
    omega (arith, sum_by-append steps (first ∷ []) events, sum_by-append steps (first ∷ []) (take i events), steps-at steps events i event is)
