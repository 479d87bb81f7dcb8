-- A reader or writer of std with a count of its faults, as contracts see an adapter over it.
use Rattle.std.specs.Prelude.{ℕ}

pub record StdDevice (Inner : Type 0) : Type 0 where
  pub inner : Inner
  pub faults : ℕ
