-- Refusals of settings: a key's path, and why.
use Rattle.std.specs.Prelude.{◌≡◌, ℕ, List, Result, Ok, Err}
use Rattle.ppp_conf.specs.declared.conf_fault.ConfFault.{ConfFault}
use Rattle.ppp_conf.specs.declared.conf_fault.ConfFault.TheVariants.{Memory, Refused}
use Rattle.ppp_conf.specs.declared.conf_why.ConfWhy.{ConfWhy}

pub record Refusal : Type 0 where
  pub key : List ℕ
  pub why : ConfWhy

abbrev pub refuse : {A : Type 0} → List ℕ → ConfWhy → Result A Refusal
refuse key why = Err (record { key = key; why = why })

-- what reads so is refused with this fault; memory is free
abbrev pub IsRefusal : {A : Type 0} → Result A Refusal → ConfFault → Type 0
IsRefusal read Memory = Unit {0}
IsRefusal read (Refused key why) = read ≡ refuse key why

-- what reads so is read, and the code has it as this value
abbrev pub HasRead : {A B : Type 0} → (A → B → Type 0) → Result A Refusal → B → Type 0
HasRead Seen (Ok x) value = Seen x value
HasRead Seen (Err refusal) value = ⊥

-- what the code answers for what reads so
abbrev pub Reads : {A B : Type 0} → (A → B → Type 0) → Result A Refusal → Result B ConfFault → Type 0
Reads Seen read (Ok value) = HasRead Seen read value
Reads Seen read (Err fault) = IsRefusal read fault
