-- The keys of a table: each has a path, a form, and a default.
use Rattle.std.specs.Prelude.{ℕ, List, ◌++◌, Option, Some, None, Result, Ok, Err}
use Rattle.std.specs.Borrow.{Bor}
use Rattle.std.specs.BTreeMap.{BTreeMap}
use Rattle.std.specs.declared.alloc.Global.{Global}
use Rattle.std.specs.Prelude.{String}
use Rattle.toml.specs.Data.{Data, Members, no_members, get_member}
use Rattle.toml.specs.View.{table_view}
use Rattle.toml.specs.declared.value.Value.{Value}
use Rattle.ppp_conf.specs.declared.conf_why.ConfWhy.{ConfWhy}
use Rattle.ppp_conf.specs.declared.keys.Keys.{Keys}
use Rattle.ppp_conf.specs.declared.conf_why.ConfWhy.TheVariants.{Missing}
use Rattle.ppp_conf.specs.Refusal.{Refusal, refuse}

-- a table of the settings: what its keys' paths begin with, and its members
pub record Given : Type 0 where
  pub prefix : List ℕ
  pub members : Members

-- the members of a table that the code has; where it has none there is no member
abbrev pub members_in : Option (Bor (BTreeMap (String Global) Value)) → Members
members_in (Some table) = table_view table.now
members_in None = no_members

-- the table that keys are of
abbrev pub keys_seen : Keys → Given
keys_seen keys = record { prefix = keys.prefix.now; members = members_in keys.table }

-- what was read, with the key's path where it is refused
abbrev pub at : {A : Type 0} → List ℕ → Result A ConfWhy → Result A Refusal
at path (Ok value) = Ok value
at path (Err why) = refuse path why

-- what a key reads as: its default where it isn't there
abbrev pub or_default : {A : Type 0} → Option Data → (Data → Result A ConfWhy) → A → Result A ConfWhy
or_default (Some value) form default = form value
or_default None form default = Ok default

abbrev pub key : {A : Type 0} → Given → List ℕ → (Data → Result A ConfWhy) → A → Result A Refusal
key given name form default = at (given.prefix ++ name) (or_default (get_member name given.members) form default)

-- what a key reads as that has to be there
abbrev pub or_missing : {A : Type 0} → Option Data → (Data → Result A ConfWhy) → Result A ConfWhy
or_missing (Some value) form = form value
or_missing None form = Err Missing

abbrev pub required : {A : Type 0} → Given → List ℕ → (Data → Result A ConfWhy) → Result A Refusal
required given name form = at (given.prefix ++ name) (or_missing (get_member name given.members) form)
