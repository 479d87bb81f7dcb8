-- One automaton without its table: what it keeps (RFC 1661 sections 4.2 and 4.6), and what is read off it.
use Rattle.std.specs.Prelude.{ℕ, ◌+◌, ◌≤◌, ◌%◌, Bool, true, false, List, [], Option, Some, None}
use Rattle.ppp_packet.specs.ConfigOption.{ConfigOption}
use Rattle.ppp_auto.specs.declared.auto.TheConstants.{LEAST_CAP, MOST_CAP}
use Rattle.ppp_auto.specs.declared.auto.Auto.{Auto as Kept}
use Rattle.ppp_auto.specs.declared.auto_state.AutoState.{AutoState}
use Rattle.ppp_auto.specs.declared.auto_state.AutoState.TheVariants.{Initial, Starting, Closed, Stopped, Closing, Stopping, ReqSent, AckRcvd, AckSent, Opened}
use Rattle.ppp_auto.specs.OptionTable.{Table}

pub record Auto : Type 0 where
  pub state : AutoState
  -- the restart counter
  pub restart : ℕ
  -- the count of Configure-Naks since the last Configure-Ack
  pub naks : ℕ
  -- the Identifier of the next Configure-Request, and of the next Terminate-Request or Code-Reject
  pub next_id : ℕ
  pub second : ℕ
  -- the list of the last Configure-Request, or of the first before it was sent
  pub own : List ConfigOption
  -- the list that was acknowledged last
  pub peer : List ConfigOption
  -- the octets that a Code-Reject or Echo-Reply may have
  pub cap : ℕ

-- the automaton that the code keeps
abbrev pub auto_seen : Kept → Auto
auto_seen a = record { state = a.state; restart = a.restart; naks = a.naks; next_id = a.next_id; second = a.second; own = a.own; peer = a.peer; cap = a.cap }

-- the cap on a Code-Reject or an Echo-Reply leaves room for a header, and fits an outbox
pub record IsCap (cap : ℕ) : Type 0 where
  pub low : LEAST_CAP ≤ cap
  pub high : cap ≤ MOST_CAP

-- what is always so of an automaton: its own list may be sent
pub record IsAuto (sendable : List ConfigOption → Type 0) (a : Kept) : Type 0 where
  pub sends : sendable a.own
  pub cap : IsCap a.cap

abbrev pub begun : Table → ℕ → Auto
begun t first_id = record { state = Initial; restart = 0; naks = 0; next_id = first_id; second = first_id; own = t.initial 0; peer = []; cap = MOST_CAP }

-- the Identifier of the last Configure-Request, modulo 256
abbrev pub last_id : Auto → ℕ
last_id a = (a.next_id + 255) % 256

-- whether the last request isn't looked at: none is under way
abbrev pub is_idle : AutoState → Bool
is_idle Closed = true
is_idle Stopped = true
is_idle s = false

-- whether a request that is sent begins a negotiation
abbrev pub begins_anew : AutoState → Bool
begins_anew Starting = true
begins_anew Closed = true
begins_anew Stopped = true
begins_anew s = false

abbrev pub is_opened : AutoState → Bool
is_opened Opened = true
is_opened s = false

abbrev pub is_stopped : AutoState → Bool
is_stopped Stopped = true
is_stopped s = false

-- whether no packet is taken in
abbrev pub is_off : AutoState → Bool
is_off Initial = true
is_off Starting = true
is_off s = false

-- whether the restart timer is on (RFC 1661 section 4.4)
abbrev pub is_timed : AutoState → Bool
is_timed Closing = true
is_timed Stopping = true
is_timed ReqSent = true
is_timed AckRcvd = true
is_timed AckSent = true
is_timed s = false

-- whether the last request was acknowledged, so that the own list is granted
abbrev pub is_heard : AutoState → Bool
is_heard AckRcvd = true
is_heard Opened = true
is_heard s = false

-- whether the peer's last request was acknowledged
abbrev pub has_acked : AutoState → Bool
has_acked AckSent = true
has_acked Opened = true
has_acked s = false

abbrev pub granted_if : Bool → List ConfigOption → Option (List ConfigOption)
granted_if true list = Some list
granted_if false list = None

-- the granted own list, and the list granted to the peer
abbrev pub mine_of : Auto → Option (List ConfigOption)
mine_of a = granted_if (is_heard a.state) a.own

abbrev pub peer_of : Auto → Option (List ConfigOption)
peer_of a = granted_if (has_acked a.state) a.peer
