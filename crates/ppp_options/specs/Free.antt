-- Lists and answers in which no option of a Type stands.
use Rattle.std.specs.Prelude.{◌≡◌, ℕ, false, List}
use Rattle.ppp_packet.specs.ConfigOption.{ConfigOption}
use Rattle.ppp_auto.specs.Packet.{Packet, Ack, Nak, Reject}
use Rattle.ppp_auto.specs.Reply.{has_kind}

-- no option of the list has that Type
abbrev pub IsFree : ℕ → List ConfigOption → Type 0
IsFree kind list = has_kind kind list ≡ false

-- a packet neither Naks nor rejects an option of that Type
abbrev pub LeavesAlone : ℕ → Packet → Type 0
LeavesAlone kind (Nak id options) = IsFree kind options
LeavesAlone kind (Reject id options) = IsFree kind options
LeavesAlone kind packet = Unit {0}

-- a packet acknowledges no list but that one
abbrev pub AcksNothingBut : List ConfigOption → Packet → Type 0
AcksNothingBut list (Ack id options) = options ≡ list
AcksNothingBut list packet = Unit {0}

-- a packet acknowledges no option of that Type
abbrev pub AcksNothingOf : ℕ → Packet → Type 0
AcksNothingOf kind (Ack id options) = IsFree kind options
AcksNothingOf kind packet = Unit {0}
