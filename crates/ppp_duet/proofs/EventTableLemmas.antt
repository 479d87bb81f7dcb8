-- What holds of each cell of the event table.
use Rattle.std.proofs.Common.{◌≡◌, ◌⊎◌, Bool, true, false, List, Option, Some, arith}
use Rattle.std.specs.List.{list_any}
use Rattle.ppp_auto.specs.declared.auto_state.AutoState.{AutoState}
use Rattle.ppp_auto.specs.declared.input.Input.{Input}
use Rattle.ppp_auto.specs.declared.input.Input.TheVariants.{Down, ReceiveConfigureRequestGood, ReceiveConfigureRequestBad, ReceiveConfigureAck}
use Rattle.ppp_auto.specs.declared.action.Action.{Action}
use Rattle.ppp_auto.specs.declared.action.Action.TheVariants.{SendConfigureAck, SendConfigureNak, SendEchoReply}
use Rattle.ppp_auto.specs.Auto.{is_heard, has_acked, is_idle, is_opened, is_stopped, begins_anew}
use Rattle.ppp_auto.specs.Auto.{is_off}
use Rattle.ppp_duet.specs.Reopening.{is_low}
use Rattle.ppp_auto.specs.EventTable.{cell_of, asks, acks}

abbrev pub is_request : Option Input → Bool
is_request (Some ReceiveConfigureRequestGood) = true
is_request (Some ReceiveConfigureRequestBad) = true
is_request input = false

abbrev answers_in : Action → Bool
answers_in SendConfigureAck = true
answers_in SendConfigureNak = true
answers_in SendEchoReply = true
answers_in a = false

-- whether the answer of a packet is sent
abbrev pub sends_answer : List Action → Bool
sends_answer actions = list_any answers_in actions

-- what is granted was not asked for anew
pub heard_asks_nothing : (i : Input) (s : AutoState) → is_heard (cell_of i s).next ≡ true → asks (cell_of i s).actions ≡ false
heard_asks_nothing i s h = grind arith

pub heard_from : (i : Input) (s : AutoState) → is_heard (cell_of i s).next ≡ true →
    (is_heard s ≡ true) ⊎ ((Some i ≡ Some ReceiveConfigureAck) × (is_idle s ≡ false))
heard_from i s h = grind arith

pub acked_from : (i : Input) (s : AutoState) → has_acked (cell_of i s).next ≡ true → acks (cell_of i s).actions ≡ false →
    (has_acked s ≡ true) × (is_request (Some i) ≡ false)
acked_from i s h k = grind arith

pub acks_good : (i : Input) (s : AutoState) → acks (cell_of i s).actions ≡ true → (Some i ≡ Some ReceiveConfigureRequestGood) × (is_off s ≡ false)
acks_good i s h = grind arith

-- a new request beside an Ack begins a negotiation in Stopped alone
pub acks_unasked : (i : Input) (s : AutoState) → acks (cell_of i s).actions ≡ true → asks (cell_of i s).actions ≡ false → is_stopped s ≡ false
acks_unasked i s h k = grind arith

pub acks_anew : (i : Input) (s : AutoState) → acks (cell_of i s).actions ≡ true → begins_anew s ≡ is_stopped s
acks_anew i s h = grind arith

pub answers_on : (i : Input) (s : AutoState) → sends_answer (cell_of i s).actions ≡ true → is_off s ≡ false
answers_on i s h = grind arith

-- a low state is left by a new request
pub low_stays : (i : Input) (s : AutoState) → is_low s ≡ true → (is_low (cell_of i s).next ≡ true) ⊎ (asks (cell_of i s).actions ≡ true)
low_stays i s h = grind arith

-- Opened is left to a low state or by a new request
pub opened_left : (i : Input) (s : AutoState) → is_opened s ≡ true →
    (is_opened (cell_of i s).next ≡ true) ⊎ (is_low (cell_of i s).next ≡ true) ⊎ (asks (cell_of i s).actions ≡ true)
opened_left i s h = grind arith

-- a request that is taken in ends Opened
pub request_ends : (i : Input) (s : AutoState) → is_request (Some i) ≡ true → is_opened s ≡ true → is_opened (cell_of i s).next ≡ false
request_ends i s h k = grind arith

pub down_low : (s : AutoState) → is_low (cell_of Down s).next ≡ true
down_low s = grind arith

pub down_asks_nothing : (s : AutoState) → asks (cell_of Down s).actions ≡ false
down_asks_nothing s = grind arith

-- what low states and Opened are not
pub low_not_heard : (s : AutoState) → is_low s ≡ true → is_heard s ≡ false
low_not_heard s h = grind arith

pub low_not_acked : (s : AutoState) → is_low s ≡ true → has_acked s ≡ false
low_not_acked s h = grind arith

pub low_not_opened : (s : AutoState) → is_low s ≡ true → is_opened s ≡ false
low_not_opened s h = grind arith

pub opened_heard : (s : AutoState) → is_opened s ≡ true → is_heard s ≡ true
opened_heard s h = grind arith
