-- The names of the states (RFC 1661 section 4.2).
use Rattle.std.specs.Prelude.{ℕ, List, codes}
use Rattle.ppp_auto.specs.declared.auto_state.AutoState.{AutoState}
use Rattle.ppp_auto.specs.declared.auto_state.AutoState.TheVariants.{Initial, Starting, Closed, Stopped, Closing, Stopping, ReqSent, AckRcvd, AckSent, Opened}

abbrev pub state_name : AutoState → List ℕ
state_name Initial = codes "Initial"
state_name Starting = codes "Starting"
state_name Closed = codes "Closed"
state_name Stopped = codes "Stopped"
state_name Closing = codes "Closing"
state_name Stopping = codes "Stopping"
state_name ReqSent = codes "Req-Sent"
state_name AckRcvd = codes "Ack-Rcvd"
state_name AckSent = codes "Ack-Sent"
state_name Opened = codes "Opened"
