-- The line of a piece that is discarded.
use Rattle.std.specs.Prelude.{ℕ, List, ◌++◌, codes}
use Rattle.ppp_frame.specs.declared.why.Why.{Why}
use Rattle.ppp_frame.specs.declared.why.Why.TheVariants.{Aborted, Oversize, Short, BadFcs, BadHeader}

abbrev pub why_name : Why → List ℕ
why_name Aborted = codes "Aborted"
why_name Oversize = codes "Oversize"
why_name Short = codes "Short"
why_name BadFcs = codes "BadFcs"
why_name BadHeader = codes "BadHeader"

-- `discard WHY`
abbrev pub discard_line : Why → List ℕ
discard_line why = codes "discard " ++ why_name why ++ codes "\n"
