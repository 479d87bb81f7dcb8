-- What a table of options has to keep. Nothing else of a table is used where two ends are shown to agree.
use Rattle.std.specs.Prelude.{◌≡◌, ℕ, ◌≤◌, ◌⊎◌, ◌↔◌, ◌==◌, true, false, is_some, List, [], ◌∷◌, ◌++◌, length, Some, None}
use Rattle.std.specs.List.{list_any}
use Rattle.ppp_packet.specs.ConfigOption.{ConfigOption}
use Rattle.ppp_packet.specs.Options.{written}
use Rattle.ppp_auto.specs.declared.verdict.Verdict.TheVariants.{Good, Bad, Unknown}
use Rattle.ppp_auto.specs.Reply.{has_kind}
use Rattle.ppp_auto.specs.OptionTable.{Table}

-- each option is good against the own list
abbrev pub AllGood : Table → List ConfigOption → ℕ → List ConfigOption → Type 0
AllGood t own word [] = Unit {0}
AllGood t own word (o ∷ os) = (t.judge own o word ≡ Good) × AllGood t own word os

-- no option has a kind that stood before it
abbrev pub NoneTwice : List ConfigOption → List ConfigOption → Type 0
NoneTwice earlier [] = Unit {0}
NoneTwice earlier (o ∷ os) = (has_kind o.kind earlier ≡ false) × NoneTwice (earlier ++ o ∷ []) os

-- a peer's list passes: every option is good, no kind stands twice, and nothing is missing
pub record Passes (t : Table) (own theirs : List ConfigOption) (word : ℕ) : Type 0 where
  pub good : AllGood t own word theirs
  pub once : NoneTwice [] theirs
  pub whole : t.missing own theirs word ≡ None

pub record Lawful (t : Table) (sendable : List ConfigOption → Type 0) (unknown : ConfigOption → Type 0) (allows compat : List ConfigOption → List ConfigOption → Type 0) : Type 0 where
  -- what is asked for may be sent
  pub first_sent : (word : ℕ) → sendable (t.initial word)
  pub after_nak_sent : (last nak : List ConfigOption) (word : ℕ) → sendable last → sendable (t.adapt_nak last nak word)
  pub after_reject_sent : (last reject : List ConfigOption) (word : ℕ) → sendable last → sendable (t.adapt_reject last reject word)
  -- an option is unknown by itself
  pub unknown_is : (own : List ConfigOption) (o : ConfigOption) (word : ℕ) → (t.judge own o word ≡ Unknown) ↔ unknown o
  -- against a list that may be sent, those lists are allowed that pass
  pub allows_is : (own theirs : List ConfigOption) (word : ℕ) → sendable own → allows own theirs ↔ Passes t own theirs word
  -- whether an option is good, or one is missing, doesn't depend on the word
  pub good_always : (own : List ConfigOption) (o : ConfigOption) (word other : ℕ) → t.judge own o word ≡ Good → t.judge own o other ≡ Good
  pub missing_always : (own theirs : List ConfigOption) (word other : ℕ) → is_some (t.missing own theirs word) ≡ is_some (t.missing own theirs other)
  -- what is allowed fits, and fits both ways
  pub allowed_fits : (own theirs : List ConfigOption) → sendable own → allows own theirs → compat own theirs
  pub fits_both_ways : (one other : List ConfigOption) → compat one other → compat other one
  -- sizes in octets
  pub sent_short : (list : List ConfigOption) → sendable list → length (written list) ≤ 128
  pub allowed_short : (own theirs : List ConfigOption) → sendable own → allows own theirs → length (written theirs) ≤ 128
  pub better_short : (own : List ConfigOption) (o better : ConfigOption) (word : ℕ) → t.judge own o word ≡ Bad better → length better.body ≤ 32
  pub missing_short : (own theirs : List ConfigOption) (missed : ConfigOption) (word : ℕ) → t.missing own theirs word ≡ Some missed → length missed.body ≤ 32
  -- at most 16 kinds aren't unknown: these
  pub kinds : List ℕ
  pub kinds_few : length kinds ≤ 16
  pub kinds_all : (o : ConfigOption) → unknown o ⊎ (list_any (λ kind. kind == o.kind) kinds ≡ true)
