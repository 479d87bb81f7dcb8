-- Why settings couldn't be read: the line that says it.
use Rattle.std.specs.Prelude.{ℕ, List, ◌++◌, codes}
use Rattle.ppp_conf.specs.declared.conf_fault.ConfFault.{ConfFault}
use Rattle.ppp_conf.specs.declared.conf_fault.ConfFault.TheVariants.{Memory, Refused}
use Rattle.ppp_conf.specs.ConfWhy.{why_name}

-- `config KEY WHY` of a refusal
abbrev pub fault_text : ConfFault → List ℕ
fault_text Memory = codes "out of memory"
fault_text (Refused key why) = codes "config " ++ key ++ codes " " ++ why_name why
