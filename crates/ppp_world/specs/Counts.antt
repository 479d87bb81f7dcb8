-- How far two ends have counted after a step, whatever it is.
use Rattle.std.specs.Prelude.{ℕ, ◌+◌}
use Rattle.ppp_party.specs.Counted.{AreCounted}
use Rattle.ppp_party.specs.Party.{Ends}
use Rattle.ppp_world.specs.World.{most_a_step}

-- neither has counted further than a step may
pub record Counts (old new : Ends) : Type 0 where
  pub a : (n : ℕ) → AreCounted n old.own → AreCounted (n + most_a_step) new.own
  pub b : (n : ℕ) → AreCounted n old.other → AreCounted (n + most_a_step) new.other
