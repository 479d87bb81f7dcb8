-- What the calls of a net answer, and what they change.
use Rattle.std.specs.Prelude.{◌≡◌, ◌≢◌, ℕ, ◌+◌, ◌<◌, ◌≤◌, Bool, true, false, List, length, slice_index_or, slice_set, ⊤}
use Rattle.ppp_wires.specs.declared.wires.TheConstants.{MOST_PORT, MOST_LINK}
use Rattle.ppp_wires.specs.declared.wires.Wired.{Wired}
use Rattle.ppp_wires.specs.declared.wires.Wired.TheVariants as wired
use Rattle.ppp_wires.specs.declared.wires.Polled.{Polled}
use Rattle.ppp_wires.specs.declared.wires.Polled.TheVariants as polled
use Rattle.ppp_wires.specs.declared.wires.Pushed.{Pushed}
use Rattle.ppp_wires.specs.declared.wires.Pushed.TheVariants as pushed

-- a port: a number from 1 to 32
abbrev pub IsPort : ℕ → Type 0
IsPort port = (1 ≤ port) × (port ≤ MOST_PORT)

-- a link: a number from 1 to 16; its ports are that number and the one 16 higher
abbrev pub IsLink : ℕ → Type 0
IsLink link = (1 ≤ link) × (link ≤ MOST_LINK)

-- whether a port is connected
abbrev pub is_on : List Bool → ℕ → Bool
is_on ports port = slice_index_or ports port false

-- which ports are connected after `connect`: Ready alone makes its port so
abbrev pub after_connect : List Bool → ℕ → Wired → List Bool
after_connect ports port wired.Ready = slice_set ports port true
after_connect ports port wired.Waiting = ports
after_connect ports port wired.Failed = ports

-- which ports are connected after `join`: Ready alone makes its two so
abbrev pub after_join : List Bool → ℕ → Wired → List Bool
after_join ports link wired.Ready = slice_set (slice_set ports link true) (link + MOST_LINK) true
after_join ports link wired.Waiting = ports
after_join ports link wired.Failed = ports

-- a poll gives at least one octet, and no more than the buffer has room for
abbrev pub PollWithin : Polled → List ℕ → Type 0
PollWithin (polled.Got count) buf = (0 < count) × (count ≤ length buf)
PollWithin polled.Quiet buf = ⊤
PollWithin polled.Ended buf = ⊤
PollWithin polled.Failed buf = ⊤

-- a push takes at least one octet, and no more than the piece has
abbrev pub PushWithin : Pushed → List ℕ → Type 0
PushWithin (pushed.Took count) piece = (0 < count) × (count ≤ length piece)
PushWithin pushed.Busy piece = ⊤
PushWithin pushed.Failed piece = ⊤

-- the counts of all other ports stay
abbrev pub CountsStay : ℕ → (ℕ → ℕ) → (ℕ → ℕ) → Type 0
CountsStay port old new = (other : ℕ) → other ≢ port → new other ≡ old other
