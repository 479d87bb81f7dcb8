-- A sink in memory that never fails, as contracts see it.
use Rattle.std.specs.Prelude.{ℕ, List, Bool, Option, Some, None, if◌then◌else◌}

-- held: the octets that it holds; room: the most that it holds; past_room: more came than it has room for
pub record SureSinkState : Type 0 where
  pub held : List ℕ
  pub room : ℕ
  pub past_room : Bool

-- it tells what it holds only as long as no more came
abbrev pub held_if_told : SureSinkState → Option (List ℕ)
held_if_told s = if s.past_room then None else Some s.held
