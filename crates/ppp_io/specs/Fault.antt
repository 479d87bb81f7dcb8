-- Counts of faults, by which the outside says that it failed.
use Rattle.std.specs.Prelude.{ℕ, ◌+◌, ◌-◌, ◌^◌, ◌≤◌, min}

-- the greatest count, at which a count stays
abbrev pub greatest_count : ℕ
greatest_count = 2 ^ 64 - 1

-- one more, up to the greatest count
abbrev pub one_more : ℕ → ℕ
one_more count = min (count + 1) greatest_count

-- A count rose in a call, or stands at the greatest one.
abbrev pub Rose : ℕ → ℕ → Type 0
Rose before now = (one_more before ≤ now) × (now ≤ greatest_count)

-- The cause of an answer: a count never falls nor passes the greatest one, and where the answer is a fault it rose.
pub record HasCause (before now : ℕ) (IsFault : Type 0) : Type 0 where
  pub later : before ≤ now
  pub within : now ≤ greatest_count
  pub rose : IsFault → Rose before now
