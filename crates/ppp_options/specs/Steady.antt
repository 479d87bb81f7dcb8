-- Options that a peer takes as they are asked for, where it knows them.
use Rattle.std.specs.Prelude.{◌≡◌, ℕ, true, if◌then◌else◌, List, [], Option, None}
use Rattle.ppp_packet.specs.ConfigOption.{ConfigOption}
use Rattle.ppp_packet.specs.Options.{find_kind}
use Rattle.ppp_options.specs.Rule.{Rule}
use Rattle.ppp_options.specs.Rules.{Sendable}

-- What the rows of a Type in an end's table and in its peer's owe, so that the peer has nothing to say to the option.
pub record IsSteady (mine theirs : Rule) : Type 0 where
  -- it is asked for with one body, whatever the word, or never
  pub one_body : (word : ℕ) → mine.first word ≡ mine.first 0
  -- the peer knows it by its Type
  pub by_type : (body : List ℕ) → theirs.is_known body ≡ theirs.is_known []
  -- what may be asked for is good, whatever the peer's own list is
  pub good : (own : List ConfigOption) (body : List ℕ) → mine.is_sent body ≡ true → theirs.is_good own body ≡ true

-- A list may be asked for, and has the option as it is asked for first, if the peer knows it.
pub record AsksSteadily (rs : List Rule) (kind : ℕ) (mine theirs : Rule) (list : List ConfigOption) : Type 0 where
  pub sendable : Sendable rs list
  pub steady : theirs.is_known [] ≡ true → find_kind kind list ≡ mine.first 0

-- the body of the option that the peer grants, if it grants it
abbrev pub granted_body : Rule → Rule → Option (List ℕ)
granted_body mine theirs = if theirs.is_known [] then mine.first 0 else None
