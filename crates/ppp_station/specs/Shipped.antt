-- What a policy answers, and the one that comes with the program.
use Rattle.std.specs.Prelude.{◌≡◌, ℕ, Bool, false, nat_le, Option, Some, None}
use Rattle.ppp_bap.specs.declared.call_ask.CallAsk.{CallAsk}
use Rattle.ppp_station.specs.Station.{Station, Stepped, policy_asked, station_does}
use Rattle.ppp_station.specs.declared.station_event.StationEvent.{StationEvent}

-- where it is asked
abbrev pub answered : (CallAsk → Bool) → Option CallAsk → Bool
answered says None = false
answered says (Some question) = says question

-- a peer may have another link exactly where it is no faster than that, in kbit/s
abbrev pub allows_up_to : ℕ → CallAsk → Bool
allows_up_to max_speed ask = nat_le ask.speed max_speed

-- a policy answers so and nothing else
abbrev pub IsShippedAs : (CallAsk → Bool → Type 0) → ℕ → Type 0
IsShippedAs says max_speed = (question : CallAsk) (allowed : Bool) → says question allowed → allowed ≡ allows_up_to max_speed question

-- an event of a station with such a policy
abbrev pub shipped_does : ℕ → StationEvent → Station → ℕ → Stepped
shipped_does max_speed ev st word = station_does (answered (allows_up_to max_speed) (policy_asked ev st word)) ev st word
