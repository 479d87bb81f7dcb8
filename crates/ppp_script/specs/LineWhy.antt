-- Why a line is refused.
use Rattle.std.specs.Prelude.{ℕ, List, codes}
use Rattle.ppp_script.specs.declared.line_why.LineWhy.{LineWhy}
use Rattle.ppp_script.specs.declared.line_why.LineWhy.TheVariants.{Event, Link, Steps}

abbrev pub why_name : LineWhy → List ℕ
why_name Event = codes "Event"
why_name Link = codes "Link"
why_name Steps = codes "Steps"
