-- Sets of links, as what says of each number whether it is in the set.
use Rattle.std.specs.Prelude.{ℕ, ◌-◌, ◌≤◌, Bool, ◌&&◌, ◌==◌, nat_le, List, [], ◌∷◌, Option}
use Rattle.std.specs.List.{count_by, find, list_any}
use Rattle.std.specs.Int.{bit_at}

abbrev pub link_numbers : List ℕ
link_numbers = 1 ∷ 2 ∷ 3 ∷ 4 ∷ 5 ∷ 6 ∷ 7 ∷ 8 ∷ 9 ∷ 10 ∷ 11 ∷ 12 ∷ 13 ∷ 14 ∷ 15 ∷ 16 ∷ []

-- the number of a link
pub record IsLink (l : ℕ) : Type 0 where
  pub least : 1 ≤ l
  pub most : l ≤ 16

-- a set of links as a number: its bit l - 1 stands for link l
abbrev pub has_link : ℕ → ℕ → Bool
has_link links l = nat_le 1 l && (nat_le l 16 && (bit_at links (l - 1) == 1))

-- whether the set has a link, how many it has, and the least of them
unfoldable pub some_link : (ℕ → Bool) → Bool
some_link set = list_any set link_numbers

unfoldable pub count_links : (ℕ → Bool) → ℕ
count_links set = count_by set link_numbers

unfoldable pub least_link : (ℕ → Bool) → Option ℕ
least_link set = find set link_numbers
