-- Scripts: lists of lines of some form, whose steps are counted.
use Rattle.std.specs.Prelude.{◌≡◌, ℕ, ◌+◌, ◌≤◌, Bool, true, nat_le, ◌==◌, if◌then◌else◌, List, [], ◌∷◌, ◌++◌, All, sum_by, Result, Ok, Err}
use Rattle.ppp_text.specs.Lines.{lines_of}
use Rattle.ppp_script.specs.declared.line_why.LineWhy.{LineWhy}
use Rattle.ppp_script.specs.declared.line_why.LineWhy.TheVariants as why
use Rattle.ppp_script.specs.declared.script.TheConstants.{MOST_STEPS}
use Rattle.ppp_script.specs.Line.{Form}
use Rattle.ppp_script.specs.Results.{◌>>=◌}

-- lines that are within their bounds, and their steps, which are counted
pub record IsScript {E : Type 0} (steps_in : E → ℕ) (IsWithin : E → Type 0)
    (lines : List E) (steps : ℕ) : Type 0 where
  pub counted : steps ≡ sum_by steps_in lines
  pub few : steps ≤ MOST_STEPS
  pub within : All IsWithin lines

-- a line that is no step: an empty one, or one that begins with `#` (35)
abbrev pub is_no_step : List ℕ → Bool
is_no_step [] = true
is_no_step (x ∷ xs) = x == 35

-- where a script is refused, and why; lines are counted from 1
pub record Refusal : Type 0 where
  pub line : ℕ
  pub why : LineWhy

-- a line that is refused has its number with it
abbrev pub at_line : {A : Type 0} → ℕ → Result A LineWhy → Result A Refusal
at_line number (Ok x) = Ok x
at_line number (Err why) = Err (record { line = number; why = why })

module _ {E : Type 0} (form : Form E) (links : ℕ) where
  -- what a line reads as behind this many steps, which it may not bring above 100,000
  unfoldable pub step_of : ℕ → List ℕ → Result E LineWhy
  step_of steps line = do
    event ← form.read links line
    if nat_le (steps + form.steps event) MOST_STEPS then Ok event else Err why.Steps

  -- what these lines read as, of which the first has this number, behind that many steps
  unfoldable pub events_from : ℕ → ℕ → List (List ℕ) → Result (List E) Refusal
  events_from number steps [] = Ok []
  events_from number steps (line ∷ lines) =
      if is_no_step line then events_from (number + 1) steps lines else do
        event ← at_line number (step_of steps line)
        events ← events_from (number + 1) (steps + form.steps event) lines
        Ok (event ∷ events)

  -- what a script of these lines becomes by further ones, of which the first has this number
  unfoldable pub script_from : List E → ℕ → List (List ℕ) → Result (List E) Refusal
  script_from front number lines =
      events_from number (sum_by form.steps front) lines >>= (λ events. Ok (front ++ events))

  -- what a script reads as, or its first line that is refused
  unfoldable pub events_of : List ℕ → Result (List E) Refusal
  events_of text = events_from 1 0 (lines_of text)
