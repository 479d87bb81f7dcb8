-- What a packet, or an event without one, is to an automaton (RFC 1661 sections 4.3 and 5).
use Rattle.std.specs.Prelude.{◌≡◌, ◌≤◌, ℕ, ◌+◌, ◌-◌, ◌*◌, ◌/◌, ◌%◌, ◌^◌, Bool, ◌&&◌, ◌||◌, ◌==◌, nat_lt, nat_le, if◌then◌else◌, List, [], ◌∷◌, ◌++◌, length, take, drop, Option, Some, None}
use Rattle.std.specs.Option.{option_map, unwrap_or}
use Rattle.ppp_packet.specs.declared.code.Code.TheVariants.{ConfigureRequest, TerminateRequest, TerminateAck, CodeReject, ProtocolReject, EchoRequest, EchoReply, DiscardRequest}
use Rattle.ppp_packet.specs.Code.{code_number}
use Rattle.ppp_packet.specs.ConfigOption.{ConfigOption}
use Rattle.ppp_packet.specs.Options.{written}
use Rattle.ppp_packet.specs.Packet.{RawPacket, packet_octets}
use Rattle.ppp_auto.specs.declared.auto_state.AutoState.{AutoState}
use Rattle.ppp_auto.specs.declared.auto_state.AutoState.TheVariants.{Opened}
use Rattle.ppp_auto.specs.declared.auto_event.AutoEvent.{AutoEvent}
use Rattle.ppp_auto.specs.declared.auto_event.AutoEvent.TheVariants as event
use Rattle.ppp_auto.specs.declared.input.Input.{Input}
use Rattle.ppp_auto.specs.declared.input.Input.TheVariants as on
use Rattle.ppp_auto.specs.declared.auto.Auto.{Auto as KeptAuto}
use Rattle.ppp_auto.specs.declared.judged.Judged.{Judged}
use Rattle.ppp_auto.specs.declared.reply.Reply.{Reply as KeptReply}
use Rattle.ppp_auto.specs.declared.taken.Taken.{Taken as Kept}
use Rattle.ppp_auto.specs.declared.taken.TheConstants.{MAGIC}
use Rattle.ppp_packet.specs.declared.packet_ref.TheConstants.{PACKET_HEADER}
use Rattle.ppp_auto.specs.Auto.{Auto, auto_seen, is_idle, is_stopped, last_id}
use Rattle.ppp_auto.specs.Judged.{AreSettled}
use Rattle.ppp_auto.specs.OptionTable.{Table}
use Rattle.ppp_auto.specs.Packet.{Packet, Request, Ack, Nak, Reject, Other, packet_with}
use Rattle.ppp_auto.specs.Reply.{Reply, has_options, is_spent, is_sublist, reply_seen, reply_to, same_list}

pub record Taken : Type 0 where
  -- the event of the table, if it is one
  pub input : Option Input
  -- its Identifier
  pub id : ℕ
  -- what answers it, where the row sends an answer
  pub answer : Option Packet
  -- the own list that it leads to, where the row asks anew
  pub adapted : List ConfigOption
  -- the options of a request
  pub theirs : List ConfigOption
  -- its octets, for a Code-Reject
  pub whole : List ℕ
  -- the protocol that the peer rejects (RFC 1661 section 5.7)
  pub rejects : Option ℕ

-- what the code took in, where that is the own list
abbrev pub taken_seen : List ConfigOption → Kept → Taken
taken_seen own t = record { input = t.input; id = t.id; answer = t.answer; adapted = unwrap_or t.adapted own; theirs = unwrap_or t.theirs []; whole = t.whole.now; rejects = t.rejects }

-- what it leads to may be sent, and what is to be acknowledged can be kept
pub record IsFit (sendable : List ConfigOption → Type 0) (taken : Taken) : Type 0 where
  pub adapted : sendable taken.adapted
  pub short : taken.input ≡ Some on.ReceiveConfigureRequestGood → length (written taken.theirs) ≤ 128

-- what has no more to it than an Identifier, where that is the own list
abbrev pub taken_plain : List ConfigOption → Option Input → ℕ → Taken
taken_plain own input id = record { input = input; id = id; answer = None; adapted = own; theirs = []; whole = []; rejects = None }

abbrev pub taken_as : Auto → Option Input → ℕ → Taken
taken_as a input id = taken_plain a.own input id

-- the own list that a peer's request is judged against: in Stopped the one that is sent then
abbrev pub judging : Table → Auto → ℕ → List ConfigOption
judging t a word = if is_stopped a.state then t.initial word else a.own

abbrev pub request_taken : Auto → ℕ → List ConfigOption → Reply → Taken
request_taken a id theirs reply = record (taken_as a (Some reply.input) id) { answer = Some reply.answer; theirs = theirs }

-- A Configure-Ack counts where it repeats the last request.
abbrev pub is_ack_of : Auto → ℕ → List ConfigOption → Bool
is_ack_of a id options = is_idle a.state || ((id == last_id a) && same_list options a.own)

abbrev pub ack_taken : Auto → ℕ → List ConfigOption → Taken
ack_taken a id options = taken_as a (if is_ack_of a id options then Some on.ReceiveConfigureAck else None) id

abbrev pub is_nak_of : Auto → ℕ → List ConfigOption → Bool
is_nak_of a id options = has_options options && (is_idle a.state || (id == last_id a))

abbrev pub is_reject_of : Auto → ℕ → List ConfigOption → Bool
is_reject_of a id options = has_options options && (is_idle a.state || ((id == last_id a) && is_sublist options a.own))

abbrev pub nak_taken : Auto → Bool → ℕ → List ConfigOption → Taken
nak_taken a counts id adapted = if counts then record (taken_as a (Some on.ReceiveConfigureNak) id) { adapted = adapted } else taken_as a None id

-- A Code-Reject is borne where the code isn't one that every automaton needs.
abbrev pub code_reject_input : List ℕ → Option Input
code_reject_input [] = None
code_reject_input (code ∷ rest) = Some (if nat_le (code_number ConfigureRequest) code && nat_le code (code_number CodeReject) then on.ReceiveRejectCatastrophic else on.ReceiveRejectPermitted)

-- the protocol at the front of a Protocol-Reject
abbrev pub rejected_protocol : AutoState → List ℕ → Option ℕ
rejected_protocol Opened (high ∷ low ∷ rest) = Some (high * 256 + low)
rejected_protocol s octets = None

-- a number in four octets, the highest first
abbrev pub four_octets : ℕ → List ℕ
four_octets n = (n / 2 ^ 24 % 256) ∷ (n / 2 ^ 16 % 256) ∷ (n / 2 ^ 8 % 256) ∷ (n % 256) ∷ []

-- An Echo-Request is answered by the own Magic-Number and its data, cut to the cap (RFC 1661 section 5.8).
abbrev pub echo_answer : Table → Auto → ℕ → ℕ → List ℕ → Option Packet
echo_answer t a code id octets =
    if code == code_number EchoRequest
    then Some (Other (code_number EchoReply) id (take (a.cap - PACKET_HEADER) (four_octets (t.magic a.own) ++ drop MAGIC octets)))
    else None

abbrev pub unknown_taken : Auto → ℕ → ℕ → List ℕ → Taken
unknown_taken a code id octets = record (taken_as a (Some on.ReceiveUnknownCode) id) { whole = packet_octets code id octets }

-- the codes that only LCP knows
abbrev pub extended_taken : Table → Auto → ℕ → ℕ → List ℕ → Taken
extended_taken t a code id octets =
    if code == code_number ProtocolReject then record (taken_as a None id) { rejects = rejected_protocol a.state octets }
    else if nat_lt (length octets) MAGIC then taken_as a None id
    else record (taken_as a (Some on.ReceiveEcho) id) { answer = echo_answer t a code id octets }

abbrev pub is_extended_code : ℕ → Bool
is_extended_code code = nat_le (code_number ProtocolReject) code && nat_le code (code_number DiscardRequest)

-- what a packet is that carries no options
abbrev pub other_taken : Table → Auto → ℕ → ℕ → List ℕ → Taken
other_taken t a code id octets =
    if code == code_number TerminateRequest then taken_as a (Some on.ReceiveTerminateRequest) id
    else if code == code_number TerminateAck then taken_as a (Some on.ReceiveTerminateAck) id
    else if code == code_number CodeReject then taken_as a (code_reject_input octets) id
    else if t.extended && is_extended_code code then extended_taken t a code id octets
    else unknown_taken a code id octets

-- What a packet is.
abbrev pub kind : Table → Auto → Packet → ℕ → Taken
kind t a (Request id theirs) word = request_taken a id theirs (reply_to t (judging t a word) a.naks word id theirs)
kind t a (Ack id options) word = ack_taken a id options
kind t a (Nak id options) word = nak_taken a (is_nak_of a id options) id (t.adapt_nak a.own options word)
kind t a (Reject id options) word = nak_taken a (is_reject_of a id options) id (t.adapt_reject a.own options word)
kind t a (Other code id octets) word = other_taken t a code id octets

-- What an event without a packet is: the timer's depends on the restart counter.
abbrev pub input_of : Auto → AutoEvent → Input
input_of a event.Up = on.Up
input_of a event.Down = on.Down
input_of a event.AdminOpen = on.Open
input_of a event.AdminClose = on.Close
input_of a event.Timeout = if nat_lt 0 a.restart then on.TimeoutAboveZero else on.TimeoutExpired
input_of a event.RejectedWell = on.ReceiveRejectPermitted
input_of a event.RejectedBadly = on.ReceiveRejectCatastrophic

-- what the code takes a packet for, which it has read or has the header of and what follows it
abbrev pub IsKind : Table → KeptAuto → Packet → ℕ → Kept → Type 0
IsKind t a packet word taken = taken_seen a.own taken ≡ kind t (auto_seen a) packet word

abbrev pub IsKindOfRaw : Table → KeptAuto → RawPacket → ℕ → Option Kept → Type 0
IsKindOfRaw t a raw word taken = option_map (taken_seen a.own) taken ≡ option_map (λ p. kind t (auto_seen a) p word) (packet_with raw)

abbrev pub IsOther : Table → KeptAuto → RawPacket → Kept → Type 0
IsOther t a raw taken = taken_seen a.own taken ≡ other_taken t (auto_seen a) raw.code raw.id raw.rest

abbrev pub IsExtended : Table → KeptAuto → RawPacket → Kept → Type 0
IsExtended t a raw taken = taken_seen a.own taken ≡ extended_taken t (auto_seen a) raw.code raw.id raw.rest

abbrev pub AnswersEcho : Table → KeptAuto → RawPacket → Option Packet → Type 0
AnswersEcho t a raw answer = answer ≡ echo_answer t (auto_seen a) raw.code raw.id raw.rest

-- whatever the own list is
abbrev pub IsPlain : Option Input → ℕ → Kept → Type 0
IsPlain input id taken = (own : List ConfigOption) → taken_seen own taken ≡ taken_plain own input id

abbrev pub IsAdapting : ℕ → List ConfigOption → Kept → Type 0
IsAdapting id list taken = (own : List ConfigOption) → taken_seen own taken ≡ record (taken_plain own (Some on.ReceiveConfigureNak) id) { adapted = list }

abbrev pub IsUnknown : ℕ → List ℕ → Kept → Type 0
IsUnknown id whole taken = (own : List ConfigOption) → taken_seen own taken ≡ record (taken_plain own (Some on.ReceiveUnknownCode) id) { whole = whole }

-- the options of a request were judged against the list that it is judged against
abbrev pub IsRequestSettled : Table → KeptAuto → List ConfigOption → ℕ → Judged → Type 0
IsRequestSettled t a theirs word j = AreSettled t (judging t (auto_seen a) word) (is_spent a.naks) word theirs j

abbrev pub RepliesTo : Table → KeptAuto → ℕ → List ConfigOption → ℕ → KeptReply → Type 0
RepliesTo t a id theirs word reply = reply_seen reply ≡ reply_to t (judging t (auto_seen a) word) a.naks word id theirs
