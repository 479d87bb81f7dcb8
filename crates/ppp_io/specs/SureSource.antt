-- A source in memory that never fails, as contracts see it.
use Rattle.std.specs.Prelude.{ℕ, List}

-- left: the octets that it has still to give; chunk: the most that one read gives
pub record SureSourceState : Type 0 where
  pub left : List ℕ
  pub chunk : ℕ
