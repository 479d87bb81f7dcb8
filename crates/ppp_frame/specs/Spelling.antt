-- The table by which a sender spells octets under one map.
use Rattle.std.specs.Prelude.{ℕ, ◌+◌, ◌*◌, if◌then◌else◌, List, map, bit_xor}
use Rattle.std.specs.List.{range_with_len}
use Rattle.ppp_frame.specs.declared.escapes.TheConstants.{ESCAPE, TOGGLE}
use Rattle.ppp_frame.specs.Escapes.{must_escape}

-- the first octet, and times 256 the one behind an escape
abbrev pub pair_of : ℕ → ℕ → ℕ
pair_of escaped x = if must_escape escaped x then ESCAPE + bit_xor x TOGGLE * 256 else x

abbrev pub pairs_of : ℕ → ℕ → List ℕ
pairs_of escaped n = map (pair_of escaped) (range_with_len 0 n)
