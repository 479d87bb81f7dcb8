use Rattle.std.proofs.Common.{ℕ, ◌-◌, ◌≤◌, List, ◌++◌, length, take}
use Rattle.ppp_show.specs.Shown.{HasShown}
use Rattle.ppp_show.proofs.shown.Shown.take.Given as goal

-- the octets so far are shown
abbrev pub invariant-pieces : goal.invariant-pieces
invariant-pieces l = record {
  within : l.at ≤ length l.octets;
  shown : (stream : List ℕ) → HasShown stream l.initial.self → HasShown (stream ++ take l.at l.octets) l.self;
}

abbrev pub decreases-pieces : goal.decreases-pieces
decreases-pieces l = length l.octets - l.at
