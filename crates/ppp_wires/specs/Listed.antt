-- Numbers of a list, in turn, as contracts see what gives them.
use Rattle.std.specs.Prelude.{ℕ, zero, suc, ◌-◌, min, nat_lt, if◌then◌else◌, List, [], ◌∷◌, ◌++◌, length, slice_index_or, Option, Some, None}
use Rattle.ppp_io.specs.Fault.{greatest_count}

-- list: the numbers; calls: how many were given
pub record ListedState : Type 0 where
  pub list : List ℕ
  pub calls : ℕ

-- what the call behind so many calls gives: a number of the list, then the last one, or 0 where there is none
abbrev pub given : List ℕ → ℕ → ℕ
given list calls = slice_index_or list (min calls (length list - 1)) 0

-- what so many calls gave, in order
abbrev pub given_all : List ℕ → ℕ → List ℕ
given_all list zero = []
given_all list (suc calls) = given_all list calls ++ given list calls ∷ []

-- it tells what it gave while the count of calls is below the greatest one
abbrev pub given_if_told : ListedState → Option (List ℕ)
given_if_told s = if nat_lt s.calls greatest_count then Some (given_all s.list s.calls) else None
