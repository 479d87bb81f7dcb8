-- A net in memory that never fails, as contracts see it.
use Rattle.std.specs.Prelude.{ℕ, List, Option}
use Rattle.ppp_wires.specs.Made.{Made}
use Rattle.ppp_wires.specs.Port.{Port}

-- ports: by their numbers; room: how many octets may wait at each; made: the calls, in order, while they are told
pub record SureWiresState : Type 0 where
  pub ports : List Port
  pub room : ℕ
  pub made : Option (List Made)
