-- Eight octets at once.
use Rattle.std.specs.Prelude.{ℕ, zero, suc, ◌-◌, ◌/◌, ◌%◌, ◌==◌, Bool, if◌then◌else◌, List, [], ◌∷◌, ◌++◌, length, replicate, bit_xor}
use Rattle.std.specs.List.{range_with_len}
use Rattle.ppp_frame.specs.declared.escapes.TheConstants.{TOGGLE}
use Rattle.ppp_frame.specs.Escapes.{is_escape}

-- each octet as it is read where every escape opens one: changed where the octet before it is an escape
abbrev pub turned : Bool → List ℕ → List ℕ
turned escaped [] = []
turned escaped (x ∷ xs) = bit_xor x (if escaped then TOGGLE else 0) ∷ turned (is_escape x) xs

-- those that are not marked
abbrev pub unmarked : List Bool → List ℕ → List ℕ
unmarked [] xs = []
unmarked (mark ∷ marks) [] = []
unmarked (mark ∷ marks) (x ∷ xs) = if mark then unmarked marks xs else x ∷ unmarked marks xs

-- the lowest bits of a number
abbrev pub low_bits : ℕ → ℕ → List Bool
low_bits zero m = []
low_bits (suc n) m = (m % 2 == 1) ∷ low_bits n (m / 2)

-- the places below 8 whose bits a number hasn't
abbrev pub remaining_places : ℕ → List ℕ
remaining_places m = unmarked (low_bits 8 m) (range_with_len 0 8)

-- these places, and zeros behind them
abbrev pub row_of : ℕ → List ℕ
row_of m = remaining_places m ++ replicate (8 - length (remaining_places m)) 0
