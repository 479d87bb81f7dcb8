-- Why a script couldn't be read.
use Rattle.std.specs.Prelude.{◌≡◌, ⊤, List, Result, Err}
use Rattle.ppp_script.specs.declared.script_fault.ScriptFault.{ScriptFault}
use Rattle.ppp_script.specs.declared.script_fault.ScriptFault.TheVariants.{Memory, Refused}
use Rattle.ppp_script.specs.Script.{Refusal}

-- a script that reads so is refused with this fault; memory is free
abbrev pub IsRefusal : {E : Type 0} → Result (List E) Refusal → ScriptFault → Type 0
IsRefusal read Memory = ⊤
IsRefusal read (Refused line why) = read ≡ Err (record { line = line; why = why })
