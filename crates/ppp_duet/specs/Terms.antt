-- The terms of an end.
use Rattle.std.specs.Prelude.{ℕ, List}
use Rattle.ppp_packet.specs.ConfigOption.{ConfigOption}
use Rattle.ppp_auto.specs.Lawful.{Lawful}
use Rattle.ppp_auto.specs.OptionTable.{Table}
use Rattle.ppp_duet.specs.Duet.{Setup}

pub record Terms : Type 1 where
  pub setup : Setup
  -- a property of each list that it asks for
  pub keeps : List ConfigOption → Type 0
  -- the peer's options that it rejects
  pub unknown : ConfigOption → Type 0
  -- the peer's lists that it allows, against its own
  pub allows : List ConfigOption → List ConfigOption → Type 0

-- of what answers a table
abbrev pub terms_of : {V : Type 0} → (table : V → Table) (sendable : V → List ConfigOption → Type 0) (unknown : V → ConfigOption → Type 0)
    (allows : V → List ConfigOption → List ConfigOption → Type 0) → V → ℕ → Terms
terms_of table sendable unknown allows v first =
    record { setup = record { table = table v; first = first }; keeps = sendable v; unknown = unknown v; allows = allows v }

-- its table is lawful, with lists that fit by `compat`
abbrev pub AreLawful : (List ConfigOption → List ConfigOption → Type 0) → Terms → Type 0
AreLawful compat t = Lawful t.setup.table t.keeps t.unknown t.allows compat

-- Each list that the table asks for has the property, where the last one has it.
pub record KeptBy (t : Table) (keeps : List ConfigOption → Type 0) : Type 0 where
  pub first_kept : (word : ℕ) → keeps (t.initial word)
  pub after_nak_kept : (last nak : List ConfigOption) (word : ℕ) → keeps last → keeps (t.adapt_nak last nak word)
  pub after_reject_kept : (last reject : List ConfigOption) (word : ℕ) → keeps last → keeps (t.adapt_reject last reject word)
