-- A number that two ends are not to have alike.
use Rattle.std.specs.Prelude.{◌≡◌, ◌≢◌, ℕ, Bool, ◌||◌, ◌==◌, not, true, List, Some, is_some, IsTrue}
use Rattle.ppp_packet.specs.ConfigOption.{ConfigOption}
use Rattle.ppp_options.specs.Number.{number_of, number_in}

-- Two lists have no number alike: 0 is as if there were none.
abbrev pub differs : ℕ → ℕ → List ConfigOption → List ConfigOption → Bool
differs kind size one other =
    (number_of kind size one == 0) || not (number_of kind size one == number_of kind size other)

abbrev pub Differs : ℕ → ℕ → List ConfigOption → List ConfigOption → Type 0
Differs kind size one other = IsTrue (differs kind size one other)

-- Where both lists have a number of that Type, the two numbers differ.
abbrev pub NumbersDiffer : ℕ → List ConfigOption → List ConfigOption → Type 0
NumbersDiffer kind one other = (m n : ℕ) → number_in kind one ≡ Some m → number_in kind other ≡ Some n → m ≢ n

-- Both lists have one.
pub record HaveNumbers (kind : ℕ) (one other : List ConfigOption) : Type 0 where
  pub one_has : is_some (number_in kind one) ≡ true
  pub other_has : is_some (number_in kind other) ≡ true
