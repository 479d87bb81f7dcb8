-- The event table (RFC 1661 section 4.1): for each event and state the actions, in order, and the next state. A cell
-- that the standard leaves empty, or holds impossible, has no action and keeps the state.
use Rattle.std.specs.Prelude.{ℕ, ◌-◌, Bool, true, false, if◌then◌else◌, List, [], ◌∷◌}
use Rattle.std.specs.List.{fold, list_any}
use Rattle.ppp_auto.specs.declared.auto_state.AutoState.{AutoState}
use Rattle.ppp_auto.specs.declared.auto_state.AutoState.TheVariants.{Initial, Starting, Closed, Stopped, Closing, Stopping, ReqSent, AckRcvd, AckSent, Opened}
use Rattle.ppp_auto.specs.declared.event_table.Cell.{Cell as Kept}
use Rattle.ppp_auto.specs.declared.event_table.TheConstants.{MAX_CONFIGURE, MAX_TERMINATE}
use Rattle.ppp_auto.specs.declared.input.Input.{Input}
use Rattle.ppp_auto.specs.declared.input.Input.TheVariants as on
use Rattle.ppp_auto.specs.declared.action.Action.{Action}
use Rattle.ppp_auto.specs.declared.action.Action.TheVariants.{ThisLayerUp, ThisLayerDown, ThisLayerStarted, ThisLayerFinished, InitializeRestartCount, ZeroRestartCount, SendConfigureRequest, RepeatConfigureRequest, SendConfigureAck, SendConfigureNak, SendTerminateRequest, SendTerminateAck, SendCodeReject, SendEchoReply}

pub record Cell : Type 0 where
  pub actions : List Action
  pub next : AutoState

-- the cell that the code keeps
abbrev pub cell_seen : Kept → Cell
cell_seen c = record { actions = c.actions.now; next = c.next }

abbrev pub goes : List Action → AutoState → Cell
goes actions next = record { actions = actions; next = next }

abbrev pub stays : AutoState → Cell
stays s = goes [] s

abbrev pub is_new_request : Action → Bool
is_new_request SendConfigureRequest = true
is_new_request a = false

abbrev pub is_ack : Action → Bool
is_ack SendConfigureAck = true
is_ack a = false

abbrev pub is_refusal : Action → Bool
is_refusal SendConfigureNak = true
is_refusal a = false

abbrev pub is_termination : Action → Bool
is_termination SendTerminateRequest = true
is_termination a = false

abbrev pub is_drawing : Action → Bool
is_drawing SendTerminateRequest = true
is_drawing SendCodeReject = true
is_drawing a = false

abbrev pub on_up : AutoState → Cell
on_up Initial = goes [] Closed
on_up Starting = goes (InitializeRestartCount ∷ SendConfigureRequest ∷ []) ReqSent
on_up s = stays s

abbrev pub on_down : AutoState → Cell
on_down Closed = goes [] Initial
on_down Stopped = goes (ThisLayerStarted ∷ []) Starting
on_down Closing = goes [] Initial
on_down Stopping = goes [] Starting
on_down ReqSent = goes [] Starting
on_down AckRcvd = goes [] Starting
on_down AckSent = goes [] Starting
on_down Opened = goes (ThisLayerDown ∷ []) Starting
on_down s = stays s

abbrev pub on_open : AutoState → Cell
on_open Initial = goes (ThisLayerStarted ∷ []) Starting
on_open Closed = goes (InitializeRestartCount ∷ SendConfigureRequest ∷ []) ReqSent
on_open Closing = goes [] Stopping
on_open s = stays s

abbrev pub on_close : AutoState → Cell
on_close Starting = goes (ThisLayerFinished ∷ []) Initial
on_close Stopped = goes [] Closed
on_close Stopping = goes [] Closing
on_close ReqSent = goes (InitializeRestartCount ∷ SendTerminateRequest ∷ []) Closing
on_close AckRcvd = goes (InitializeRestartCount ∷ SendTerminateRequest ∷ []) Closing
on_close AckSent = goes (InitializeRestartCount ∷ SendTerminateRequest ∷ []) Closing
on_close Opened = goes (ThisLayerDown ∷ InitializeRestartCount ∷ SendTerminateRequest ∷ []) Closing
on_close s = stays s

-- TO+
abbrev pub on_timeout_above_zero : AutoState → Cell
on_timeout_above_zero Closing = goes (SendTerminateRequest ∷ []) Closing
on_timeout_above_zero Stopping = goes (SendTerminateRequest ∷ []) Stopping
on_timeout_above_zero ReqSent = goes (RepeatConfigureRequest ∷ []) ReqSent
on_timeout_above_zero AckRcvd = goes (SendConfigureRequest ∷ []) ReqSent
on_timeout_above_zero AckSent = goes (RepeatConfigureRequest ∷ []) AckSent
on_timeout_above_zero s = stays s

-- TO-
abbrev pub on_timeout_expired : AutoState → Cell
on_timeout_expired Closing = goes (ThisLayerFinished ∷ []) Closed
on_timeout_expired Stopping = goes (ThisLayerFinished ∷ []) Stopped
on_timeout_expired ReqSent = goes (ThisLayerFinished ∷ []) Stopped
on_timeout_expired AckRcvd = goes (ThisLayerFinished ∷ []) Stopped
on_timeout_expired AckSent = goes (ThisLayerFinished ∷ []) Stopped
on_timeout_expired s = stays s

-- RCR+
abbrev pub on_request_good : AutoState → Cell
on_request_good Closed = goes (SendTerminateAck ∷ []) Closed
on_request_good Stopped = goes (InitializeRestartCount ∷ SendConfigureRequest ∷ SendConfigureAck ∷ []) AckSent
on_request_good ReqSent = goes (SendConfigureAck ∷ []) AckSent
on_request_good AckRcvd = goes (SendConfigureAck ∷ ThisLayerUp ∷ []) Opened
on_request_good AckSent = goes (SendConfigureAck ∷ []) AckSent
on_request_good Opened = goes (ThisLayerDown ∷ SendConfigureRequest ∷ SendConfigureAck ∷ []) AckSent
on_request_good s = stays s

-- RCR-
abbrev pub on_request_bad : AutoState → Cell
on_request_bad Closed = goes (SendTerminateAck ∷ []) Closed
on_request_bad Stopped = goes (InitializeRestartCount ∷ SendConfigureRequest ∷ SendConfigureNak ∷ []) ReqSent
on_request_bad ReqSent = goes (SendConfigureNak ∷ []) ReqSent
on_request_bad AckRcvd = goes (SendConfigureNak ∷ []) AckRcvd
on_request_bad AckSent = goes (SendConfigureNak ∷ []) ReqSent
on_request_bad Opened = goes (ThisLayerDown ∷ SendConfigureRequest ∷ SendConfigureNak ∷ []) ReqSent
on_request_bad s = stays s

-- RCA
abbrev pub on_ack : AutoState → Cell
on_ack Closed = goes (SendTerminateAck ∷ []) Closed
on_ack Stopped = goes (SendTerminateAck ∷ []) Stopped
on_ack ReqSent = goes (InitializeRestartCount ∷ []) AckRcvd
on_ack AckRcvd = goes (SendConfigureRequest ∷ []) ReqSent
on_ack AckSent = goes (InitializeRestartCount ∷ ThisLayerUp ∷ []) Opened
on_ack Opened = goes (ThisLayerDown ∷ SendConfigureRequest ∷ []) ReqSent
on_ack s = stays s

-- RCN
abbrev pub on_nak : AutoState → Cell
on_nak Closed = goes (SendTerminateAck ∷ []) Closed
on_nak Stopped = goes (SendTerminateAck ∷ []) Stopped
on_nak ReqSent = goes (InitializeRestartCount ∷ SendConfigureRequest ∷ []) ReqSent
on_nak AckRcvd = goes (SendConfigureRequest ∷ []) ReqSent
on_nak AckSent = goes (InitializeRestartCount ∷ SendConfigureRequest ∷ []) AckSent
on_nak Opened = goes (ThisLayerDown ∷ SendConfigureRequest ∷ []) ReqSent
on_nak s = stays s

-- RTR
abbrev pub on_terminate_request : AutoState → Cell
on_terminate_request Closed = goes (SendTerminateAck ∷ []) Closed
on_terminate_request Stopped = goes (SendTerminateAck ∷ []) Stopped
on_terminate_request Closing = goes (SendTerminateAck ∷ []) Closing
on_terminate_request Stopping = goes (SendTerminateAck ∷ []) Stopping
on_terminate_request ReqSent = goes (SendTerminateAck ∷ []) ReqSent
on_terminate_request AckRcvd = goes (SendTerminateAck ∷ []) ReqSent
on_terminate_request AckSent = goes (SendTerminateAck ∷ []) ReqSent
on_terminate_request Opened = goes (ThisLayerDown ∷ ZeroRestartCount ∷ SendTerminateAck ∷ []) Stopping
on_terminate_request s = stays s

-- RTA
abbrev pub on_terminate_ack : AutoState → Cell
on_terminate_ack Closing = goes (ThisLayerFinished ∷ []) Closed
on_terminate_ack Stopping = goes (ThisLayerFinished ∷ []) Stopped
on_terminate_ack AckRcvd = goes [] ReqSent
on_terminate_ack Opened = goes (ThisLayerDown ∷ SendConfigureRequest ∷ []) ReqSent
on_terminate_ack s = stays s

-- RUC
abbrev pub on_unknown_code : AutoState → Cell
on_unknown_code Initial = stays Initial
on_unknown_code Starting = stays Starting
on_unknown_code s = goes (SendCodeReject ∷ []) s

-- RXJ+
abbrev pub on_rejected_well : AutoState → Cell
on_rejected_well AckRcvd = goes [] ReqSent
on_rejected_well s = stays s

-- RXJ-
abbrev pub on_rejected_badly : AutoState → Cell
on_rejected_badly Closed = goes (ThisLayerFinished ∷ []) Closed
on_rejected_badly Stopped = goes (ThisLayerFinished ∷ []) Stopped
on_rejected_badly Closing = goes (ThisLayerFinished ∷ []) Closed
on_rejected_badly Stopping = goes (ThisLayerFinished ∷ []) Stopped
on_rejected_badly ReqSent = goes (ThisLayerFinished ∷ []) Stopped
on_rejected_badly AckRcvd = goes (ThisLayerFinished ∷ []) Stopped
on_rejected_badly AckSent = goes (ThisLayerFinished ∷ []) Stopped
on_rejected_badly Opened = goes (ThisLayerDown ∷ InitializeRestartCount ∷ SendTerminateRequest ∷ []) Stopping
on_rejected_badly s = stays s

-- RXR
abbrev pub on_echo : AutoState → Cell
on_echo Opened = goes (SendEchoReply ∷ []) Opened
on_echo s = stays s

abbrev pub cell_of : Input → AutoState → Cell
cell_of on.Up s = on_up s
cell_of on.Down s = on_down s
cell_of on.Open s = on_open s
cell_of on.Close s = on_close s
cell_of on.TimeoutAboveZero s = on_timeout_above_zero s
cell_of on.TimeoutExpired s = on_timeout_expired s
cell_of on.ReceiveConfigureRequestGood s = on_request_good s
cell_of on.ReceiveConfigureRequestBad s = on_request_bad s
cell_of on.ReceiveConfigureAck s = on_ack s
cell_of on.ReceiveConfigureNak s = on_nak s
cell_of on.ReceiveTerminateRequest s = on_terminate_request s
cell_of on.ReceiveTerminateAck s = on_terminate_ack s
cell_of on.ReceiveUnknownCode s = on_unknown_code s
cell_of on.ReceiveRejectPermitted s = on_rejected_well s
cell_of on.ReceiveRejectCatastrophic s = on_rejected_badly s
cell_of on.ReceiveEcho s = on_echo s

-- whether a new Configure-Request is sent
abbrev pub asks : List Action → Bool
asks actions = list_any is_new_request actions

-- whether a Configure-Ack is sent
abbrev pub acks : List Action → Bool
acks actions = list_any is_ack actions

-- whether a Configure-Nak or Configure-Reject is sent
abbrev pub refuses : List Action → Bool
refuses actions = list_any is_refusal actions

-- whether a Terminate-Request is sent
abbrev pub terminates : List Action → Bool
terminates actions = list_any is_termination actions

-- whether the counter of the other packets is drawn from: for a Terminate-Request or a Code-Reject
abbrev pub draws : List Action → Bool
draws actions = list_any is_drawing actions

-- The restart counter after an action: it begins at that many, and each request that is sent takes one off, and none
-- below 0.
abbrev pub restart_at : ℕ → ℕ → Action → ℕ
restart_at most n InitializeRestartCount = most
restart_at most n ZeroRestartCount = 0
restart_at most n SendConfigureRequest = n - 1
restart_at most n RepeatConfigureRequest = n - 1
restart_at most n SendTerminateRequest = n - 1
restart_at most n a = n

abbrev pub most_sent : List Action → ℕ
most_sent actions = if terminates actions then MAX_TERMINATE else MAX_CONFIGURE

-- the restart counter after a cell's actions: it begins at Max-Terminate where a Terminate-Request is among them, else
-- at Max-Configure
abbrev pub restart_after : List Action → ℕ → ℕ
restart_after actions n = fold (restart_at (most_sent actions)) n actions
