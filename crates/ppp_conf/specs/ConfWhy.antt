-- Why settings are refused: the words.
use Rattle.std.specs.Prelude.{ℕ, List, codes}
use Rattle.ppp_conf.specs.declared.conf_why.ConfWhy.{ConfWhy}
use Rattle.ppp_conf.specs.declared.conf_why.ConfWhy.TheVariants.{Toml, Missing, Unknown, Wrong, Range, Form, Rule}

abbrev pub why_name : ConfWhy → List ℕ
why_name Toml = codes "Toml"
why_name Missing = codes "Missing"
why_name Unknown = codes "Unknown"
why_name Wrong = codes "Wrong"
why_name Range = codes "Range"
why_name Form = codes "Form"
why_name Rule = codes "Rule"
