-- All places of a net in memory.
use Rattle.std.specs.Prelude.{◌≡◌, ℕ, ◌+◌, ◌≤◌, List, All, length, map, ⊤}
use Rattle.ppp_wires.specs.declared.wires.TheConstants.{MOST_PORT}
use Rattle.ppp_wires.specs.Port.{Port, Free, Calls, Joined, Left}
use Rattle.ppp_wires.specs.Place.{PlaceState}

-- ports: by their numbers, from 0 on; room: how many octets may wait at each
pub record PortsState : Type 0 where
  pub ports : List Port
  pub room : ℕ

abbrev pub ports_in : List PlaceState → List Port
ports_in places = map (λ p. p.port) places

-- the port that it is joined to, where there is one, is a port's number
abbrev pub ReachesPort : Port → Type 0
ReachesPort Free = ⊤
ReachesPort (Calls name pushed) = ⊤
ReachesPort (Joined other waiting) = other ≤ MOST_PORT
ReachesPort (Left waiting) = ⊤

-- what every place is: it has this room, and reaches a port alone
pub record IsAlike (most : ℕ) (place : PlaceState) : Type 0 where
  pub room : place.room ≡ most
  pub reach : ReachesPort place.port

-- a place for each number up to the greatest port's, each with that room
pub record ArePlaces (places : List PlaceState) (room : ℕ) : Type 0 where
  pub count : length places ≡ MOST_PORT + 1
  pub alike : All (IsAlike room) places
