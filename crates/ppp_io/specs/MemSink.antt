-- A sink in memory whose listed writes fail, and every write once it is full, as contracts see it.
use Rattle.std.specs.Prelude.{ℕ, List}

-- failing: the numbers of the writes that fail, from 1; calls: how many writes there were; faults: how many failed
pub record MemSinkState : Type 0 where
  pub held : List ℕ
  pub room : ℕ
  pub failing : List ℕ
  pub calls : ℕ
  pub faults : ℕ
