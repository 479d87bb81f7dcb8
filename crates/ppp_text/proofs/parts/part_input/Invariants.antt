use Rattle.std.proofs.Common.{List, ℕ, length}
use Rattle.ppp_text.proofs.PartsLemmas.{Passed}
use Rattle.ppp_text.proofs.parts.part_input.Given as goal

abbrev pub invariant-lines : goal.invariant-lines
invariant-lines l = (front : List ℕ) × Passed l.text front l.rest

abbrev pub decreases-lines : goal.decreases-lines
decreases-lines l = length l.rest
