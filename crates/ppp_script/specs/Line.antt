-- What the lines of a script are.
use Rattle.std.specs.Prelude.{ℕ, List, Result}
use Rattle.ppp_script.specs.declared.line_why.LineWhy.{LineWhy}

-- the form of lines: what a line reads as, where so many links are configured, and how many steps that is
pub record Form (E : Type 0) : Type 0 where
  pub read : ℕ → List ℕ → Result E LineWhy
  pub steps : E → ℕ
