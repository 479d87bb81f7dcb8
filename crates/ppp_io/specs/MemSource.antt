-- A source in memory whose listed reads fail, as contracts see it.
use Rattle.std.specs.Prelude.{ℕ, List}

-- failing: the numbers of the reads that fail, from 1; calls: how many reads there were; faults: how many failed
pub record MemSourceState : Type 0 where
  pub left : List ℕ
  pub chunk : ℕ
  pub failing : List ℕ
  pub calls : ℕ
  pub faults : ℕ
