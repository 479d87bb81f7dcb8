-- The ports of a net in memory: a list by their numbers, whose first place is no port's.
use Rattle.std.specs.Prelude.{◌≡◌, ℕ, ⊤, ◌+◌, ◌-◌, min, nat_le, Bool, ◌&&◌, if◌then◌else◌, List, [], ◌==◌, length, map, position, slice_index_or, slice_set, take, Option, Some, None, not}
use Rattle.std.specs.Option.{is_some}
use Rattle.ppp_wires.specs.declared.wires.TheConstants.{MOST_LINK}
use Rattle.ppp_wires.specs.declared.wires.Wired.{Wired}
use Rattle.ppp_wires.specs.declared.wires.Wired.TheVariants as wired
use Rattle.ppp_wires.specs.declared.wires.Wired.TheVariants.{Ready, Waiting}
use Rattle.ppp_wires.specs.declared.wires.Polled.{Polled}
use Rattle.ppp_wires.specs.declared.wires.Polled.TheVariants as polled
use Rattle.ppp_wires.specs.declared.wires.Polled.TheVariants.{Got, Quiet, Ended}
use Rattle.ppp_wires.specs.declared.wires.Pushed.{Pushed}
use Rattle.ppp_wires.specs.declared.wires.Pushed.TheVariants as pushed
use Rattle.ppp_wires.specs.declared.wires.Pushed.TheVariants.{Took, Busy}
use Rattle.ppp_wires.specs.Port.{Port, Free, Calls, Joined, Left, is_connected, calls_as, joined_to, held, waiting_at, has_ended, with_more, without_first, left_alone}

-- the port of this number
abbrev pub port_at : List Port → ℕ → Port
port_at ports number = slice_index_or ports number Free

-- which ports are connected
abbrev pub connected_ports : List Port → List Bool
connected_ports ports = map is_connected ports

-- the least port that is a caller of this name
abbrev pub caller_of : List ℕ → List Port → Option ℕ
caller_of name ports = position (calls_as name) ports

-- a port takes a caller: the two are joined, and what the caller pushed waits for the port
abbrev pub taken_by : ℕ → List Port → Option ℕ → List Port
taken_by port ports None = ports
taken_by port ports (Some caller) =
    slice_set (slice_set ports port (Joined caller (held (port_at ports caller))))
    caller (Joined port [])

-- what `connect` answers, where it doesn't fail: Waiting exactly where one listens and nobody calls
abbrev pub connect_answer : List ℕ → Bool → List Port → Wired
connect_answer name listen ports =
    if listen && not (is_some (caller_of name ports)) then Waiting else Ready

-- the ports of one that is Ready: a listener takes the least caller, and any other is a caller from now on
abbrev pub connects : ℕ → List ℕ → Bool → List Port → List Port
connects port name listen ports =
    if listen then taken_by port ports (caller_of name ports)
    else slice_set ports port (Calls name [])

-- the ports after `connect`
abbrev pub connected_to : ℕ → List ℕ → Bool → Wired → List Port → List Port
connected_to port name listen Ready ports = connects port name listen ports
connected_to port name listen Waiting ports = ports
connected_to port name listen wired.Failed ports = ports

-- the ports after `join`: the two of the link are joined, and nothing waits
abbrev pub joined_link : ℕ → Wired → List Port → List Port
joined_link link Ready ports =
    slice_set (slice_set ports link (Joined (link + MOST_LINK) []))
    (link + MOST_LINK) (Joined link [])
joined_link link Waiting ports = ports
joined_link link wired.Failed ports = ports

-- what `poll` answers, where it doesn't fail
abbrev pub poll_answer : ℕ → ℕ → List Port → Polled
poll_answer port size ports =
    if length (waiting_at (port_at ports port)) == 0
    then (if has_ended (port_at ports port) then Ended else Quiet)
    else Got (min size (length (waiting_at (port_at ports port))))

-- the octets that a poll gives are the first of those that wait
abbrev pub PollGives : Polled → List ℕ → List ℕ → Type 0
PollGives (Got count) buf waiting = take count buf ≡ take count waiting
PollGives Quiet buf waiting = ⊤
PollGives Ended buf waiting = ⊤
PollGives polled.Failed buf waiting = ⊤

-- the ports after `poll`: what it gave is taken off
abbrev pub polled_from : ℕ → Polled → List Port → List Port
polled_from port (Got count) ports =
    slice_set ports port (without_first count (port_at ports port))
polled_from port Quiet ports = ports
polled_from port Ended ports = ports
polled_from port polled.Failed ports = ports

-- where what a port pushes goes: at a caller it stays, else it goes to the other end, where there is one
abbrev pub outlet_of : ℕ → Port → Option ℕ
outlet_of number Free = None
outlet_of number (Calls name pushed) = Some number
outlet_of number (Joined other waiting) = Some other
outlet_of number (Left waiting) = None

-- what was pushed there and isn't polled yet
abbrev pub held_there : List Port → Option ℕ → List ℕ
held_there ports None = []
held_there ports (Some outlet) = held (port_at ports outlet)

-- how many octets a port has pushed that wait to be polled at the other end
abbrev pub under_way : ℕ → List Port → ℕ
under_way port ports = length (held_there ports (outlet_of port (port_at ports port)))

-- what `push` answers, where it doesn't fail: Busy exactly where `room` octets wait to be polled
abbrev pub push_answer : ℕ → ℕ → ℕ → List Port → Pushed
push_answer room port size ports =
    if nat_le room (under_way port ports) then Busy
    else Took (min size (room - under_way port ports))

-- these octets are put behind those that stand there; where there is no other end they are dropped
abbrev pub put_there : List ℕ → List Port → Option ℕ → List Port
put_there octets ports None = ports
put_there octets ports (Some outlet) =
    slice_set ports outlet (with_more octets (port_at ports outlet))

-- the ports after `push`: the octets that it took are put behind those that wait
abbrev pub pushed_on : ℕ → List ℕ → Pushed → List Port → List Port
pushed_on port piece (Took count) ports =
    put_there (take count piece) ports (outlet_of port (port_at ports port))
pushed_on port piece Busy ports = ports
pushed_on port piece pushed.Failed ports = ports

-- the ports once the other end of this one, where it has one, is told that it hung up
abbrev pub alone_there : List Port → Option ℕ → List Port
alone_there ports None = ports
alone_there ports (Some other) = slice_set ports other (left_alone (port_at ports other))

-- the ports after `hang`: the other end is ended, and this one is free, with nothing that waits
abbrev pub hung_up : ℕ → List Port → List Port
hung_up port ports =
    slice_set (alone_there ports (joined_to (port_at ports port))) port Free
