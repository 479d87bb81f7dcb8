-- A table of options: what one value of it answers, as functions of the lists alone.
use Rattle.std.specs.Prelude.{ℕ, Bool, List, Option}
use Rattle.ppp_packet.specs.ConfigOption.{ConfigOption}
use Rattle.ppp_auto.specs.declared.verdict.Verdict.{Verdict}

pub record Table : Type 0 where
  -- whether codes 8 to 11 are known (RFC 1661 sections 5.7 to 5.9), which is so of LCP alone
  pub extended : Bool
  -- the list that is asked for first, from a word
  pub initial : ℕ → List ConfigOption
  -- what is thought of a peer's option, against the own list
  pub judge : List ConfigOption → ConfigOption → ℕ → Verdict
  -- the option that a peer's list has to have and lacks, against the own list
  pub missing : List ConfigOption → List ConfigOption → ℕ → Option ConfigOption
  -- the list that is asked for next: the last one after a Configure-Nak's options, and after a Configure-Reject's
  pub adapt_nak : List ConfigOption → List ConfigOption → ℕ → List ConfigOption
  pub adapt_reject : List ConfigOption → List ConfigOption → ℕ → List ConfigOption
  -- the Magic-Number of the own list, or 0
  pub magic : List ConfigOption → ℕ
