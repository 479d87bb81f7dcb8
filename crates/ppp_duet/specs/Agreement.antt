-- That two Opened ends agree.
use Rattle.std.specs.Prelude.{◌≡◌, List}
use Rattle.ppp_packet.specs.ConfigOption.{ConfigOption}
use Rattle.ppp_auto.specs.OptionTable.{Table}
use Rattle.ppp_duet.specs.Duet.{Duet}
use Rattle.ppp_duet.specs.EveryRun.{WhereOpened}

-- Two Opened ends agree: each one's list is what the other acknowledged last, may be sent by its own table and was
-- allowed by the other's against the other's list of that moment, and the two lists fit.
pub record Agree (sends_a sends_b : List ConfigOption → Type 0) (allows_a allows_b compat : List ConfigOption → List ConfigOption → Type 0) (d : Duet) : Type 0 where
  pub a_acked : d.a.auto.own ≡ d.b.auto.peer
  pub b_acked : d.b.auto.own ≡ d.a.auto.peer
  pub a_sends : sends_a d.a.auto.own
  pub b_sends : sends_b d.b.auto.own
  pub b_allows : allows_b d.b.against d.a.auto.own
  pub a_allows : allows_a d.a.against d.b.auto.own
  pub fits : compat d.a.auto.own d.b.auto.own

-- Wherever both ends are Opened in a narrow run, they agree.
abbrev pub Agreement : {V : Type 0} → (table : V → Table) (sendable : V → List ConfigOption → Type 0)
    (allows : V → List ConfigOption → List ConfigOption → Type 0) (compat : List ConfigOption → List ConfigOption → Type 0) (a b : V) → Type 0
Agreement table sendable allows compat a b =
    WhereOpened table (Agree (sendable a) (sendable b) (allows a) (allows b) compat) a b
