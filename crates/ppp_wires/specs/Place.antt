-- The place of a port, with room for the octets that stand at it.
use Rattle.std.specs.Prelude.{ℕ, ◌≤◌, List, vec_len, vec_capacity}
use Rattle.ppp_wires.specs.declared.wires.TheConstants.{MOST_NAME}
use Rattle.ppp_wires.specs.declared.place.State.{State}
use Rattle.ppp_wires.specs.declared.place.State.TheVariants as state
use Rattle.ppp_wires.specs.declared.place.Place.TheInside.{Inside}
use Rattle.ppp_wires.specs.Port.{Port, Free, Calls, Joined, Left}

pub record PlaceState : Type 0 where
  pub room : ℕ
  pub port : Port

-- a port of this state, with a name and the octets that stand at it
abbrev pub port_of : State → List ℕ → List ℕ → Port
port_of state.Free name octets = Free
port_of state.Calls name octets = Calls name octets
port_of (state.Joined other) name octets = Joined other octets
port_of state.Left name octets = Left octets

abbrev pub place_seen : Inside → PlaceState
place_seen p = record { room = p.room; port = port_of p.state p.name.items p.octets.items }

-- its octets have room, and memory is reserved for room and name
pub record IsPlace (p : Inside) : Type 0 where
  pub within : vec_len p.octets ≤ p.room
  pub reserved : p.room ≤ vec_capacity p.octets
  pub name : MOST_NAME ≤ vec_capacity p.name
