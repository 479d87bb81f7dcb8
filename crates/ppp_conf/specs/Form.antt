-- What a value of the settings reads as, by the form that its key has.
use Rattle.std.specs.Prelude.{ℕ, ℤ, pos, negsuc, Bool, ◌==◌, ◌||◌, nat_le, if◌then◌else◌, List, Option, Some, None, ok_or, Result, Ok, Err}
use Rattle.toml.specs.Data.{Data, Items, Members, as_str, as_integer, as_bool, as_array, as_table}
use Rattle.ppp_packet.specs.DiscClass.{is_within}
use Rattle.ppp_conf.specs.declared.conf_why.ConfWhy.{ConfWhy}
use Rattle.ppp_conf.specs.declared.conf_why.ConfWhy.TheVariants.{Wrong, Range, Form}
use Rattle.ppp_conf.specs.Protocols.{no_protocols, with_names}

-- a value of the kind that is wanted
abbrev pub of_kind : {A : Type 0} → Option A → Result A ConfWhy
of_kind value = ok_or value Wrong

-- a whole number that is allowed
abbrev pub allowed : (ℕ → Bool) → Option ℤ → Result ℕ ConfWhy
allowed test (Some (pos n)) = if test n then Ok n else Err Range
allowed test (Some (negsuc n)) = Err Range
allowed test None = Err Wrong

-- a whole number within these bounds
abbrev pub whole : ℕ → ℕ → Data → Result ℕ ConfWhy
whole least most value = allowed (is_within least most) (as_integer value)

-- 0, or a whole number within these bounds
abbrev pub is_zero_or : ℕ → ℕ → ℕ → Bool
is_zero_or least most n = n == 0 || is_within least most n

abbrev pub zero_or : ℕ → ℕ → Data → Result ℕ ConfWhy
zero_or least most value = allowed (is_zero_or least most) (as_integer value)

-- 0 to 4, 254 or 255
abbrev pub is_alignment : ℕ → Bool
is_alignment n = nat_le n 4 || (n == 254 || n == 255)

abbrev pub alignment : Data → Result ℕ ConfWhy
alignment value = allowed is_alignment (as_integer value)

abbrev pub truth : Data → Result Bool ConfWhy
truth value = of_kind (as_bool value)

-- a text that reads so
abbrev pub formed : {A : Type 0} → (List ℕ → Option A) → Option (List ℕ) → Result A ConfWhy
formed read (Some text) = ok_or (read text) Form
formed read None = Err Wrong

abbrev pub text_of : {A : Type 0} → (List ℕ → Option A) → Data → Result A ConfWhy
text_of read value = formed read (as_str value)

-- an array of names of protocols, each once
abbrev pub named : Option Items → Result (List Bool) ConfWhy
named (Some items) = ok_or (with_names no_protocols items) Form
named None = Err Wrong

abbrev pub names : Data → Result (List Bool) ConfWhy
names value = named (as_array value)

-- the value of a key that may be missing
abbrev pub there : {A : Type 0} → Result A ConfWhy → Result (Option A) ConfWhy
there (Ok value) = Ok (Some value)
there (Err why) = Err why

-- a table's members
abbrev pub table : Data → Result Members ConfWhy
table value = of_kind (as_table value)
