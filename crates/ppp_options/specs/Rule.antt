-- A row of a table of options: what a table makes of the options of one Type.
use Rattle.std.specs.Prelude.{◌≡◌, ℕ, ◌+◌, ◌≤◌, Bool, true, List, length, Option, Some, is_some}
use Rattle.ppp_packet.specs.ConfigOption.{ConfigOption}

pub record Rule : Type 0 where
  -- the Type
  pub kind : ℕ
  -- the most octets that such an option has, its Type and Length counted
  pub most : ℕ
  -- whether each list has to have it: a peer's, and an own one, from which a Reject then takes nothing
  pub required : Bool
  -- the body that is asked for first, from a word, if one is
  pub first : ℕ → Option (List ℕ)
  -- whether a body may be asked for, and whether it is one that the settings give
  pub is_sent : List ℕ → Bool
  pub is_set : List ℕ → Bool
  -- of a peer's option: whether it is known, whether it is good against the own list, and the body that is
  -- suggested else, from a word
  pub is_known : List ℕ → Bool
  pub is_good : List ConfigOption → List ℕ → Bool
  pub better : List ConfigOption → List ℕ → ℕ → List ℕ
  -- the body of an own option that may be asked for, after a Nak with the other body
  pub after : List ℕ → List ℕ → ℕ → List ℕ

-- What a row owes, whatever list its option stands in.
pub record IsRule (r : Rule) : Type 0 where
  -- what is asked for first may be asked for, and is what the settings give
  pub first_sent : (word : ℕ) (body : List ℕ) → r.first word ≡ Some body → r.is_sent body ≡ true
  pub first_set : (word : ℕ) (body : List ℕ) → r.first word ≡ Some body → r.is_set body ≡ true
  pub first_there : r.required ≡ true → (word : ℕ) → is_some (r.first word) ≡ true
  -- so is what stands after a Nak, where the last body was
  pub after_sent : (last nak : List ℕ) (word : ℕ) → r.is_sent last ≡ true → r.is_sent (r.after last nak word) ≡ true
  pub after_set : (last nak : List ℕ) (word : ℕ) → r.is_sent last ≡ true → r.is_set last ≡ true →
      r.is_set (r.after last nak word) ≡ true
  -- a Nak changes no length
  pub after_long : (last nak : List ℕ) (word : ℕ) → r.is_sent last ≡ true → length (r.after last nak word) ≡ length last
  -- sizes in octets
  pub sent_short : (body : List ℕ) → r.is_sent body ≡ true → 2 + length body ≤ r.most
  pub good_short : (own : List ConfigOption) (body : List ℕ) → r.is_known body ≡ true → r.is_good own body ≡ true →
      2 + length body ≤ r.most
  pub better_short : (own : List ConfigOption) (body : List ℕ) (word : ℕ) → length (r.better own body word) ≤ 32
