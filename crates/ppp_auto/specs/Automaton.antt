-- One end's automaton (RFC 1661 section 4): what a row of the event table does, over packets that were read, and over
-- octets.
use Rattle.std.specs.Prelude.{◌≡◌, ◌≤◌, ℕ, ◌+◌, ◌-◌, ◌%◌, min, Bool, true, false, ◌&&◌, ◌||◌, if◌then◌else◌, List, [], ◌∷◌, length, map, take, Option, Some, None}
use Rattle.std.specs.List.{flat_map}
use Rattle.std.specs.Option.{option_map, option_to_list, unwrap_or}
use Rattle.ppp_packet.specs.declared.code.Code.TheVariants.{TerminateRequest, TerminateAck, CodeReject}
use Rattle.ppp_packet.specs.Code.{code_number}
use Rattle.ppp_packet.specs.ConfigOption.{ConfigOption}
use Rattle.ppp_packet.specs.Options.{options_of, written}
use Rattle.ppp_packet.specs.PacketRef.{packet_seen}
use Rattle.ppp_packet.specs.declared.packet_ref.PacketRef.{PacketRef}
use Rattle.ppp_auto.specs.declared.auto.Auto.{Auto as KeptAuto}
use Rattle.ppp_auto.specs.declared.event_table.Cell.{Cell as KeptCell}
use Rattle.ppp_auto.specs.declared.taken.Taken.{Taken as Kept}
use Rattle.ppp_auto.specs.declared.auto_state.AutoState.{AutoState}
use Rattle.ppp_auto.specs.declared.auto_state.AutoState.TheVariants.{Initial, Starting}
use Rattle.ppp_auto.specs.declared.auto_event.AutoEvent.{AutoEvent}
use Rattle.ppp_auto.specs.declared.layer_signal.LayerSignal.TheVariants as signal
use Rattle.ppp_auto.specs.declared.input.Input.{Input}
use Rattle.ppp_auto.specs.declared.input.Input.TheVariants as on
use Rattle.ppp_auto.specs.declared.action.Action.{Action}
use Rattle.ppp_auto.specs.declared.action.Action.TheVariants.{ThisLayerUp, ThisLayerDown, ThisLayerStarted, ThisLayerFinished, InitializeRestartCount, ZeroRestartCount, SendConfigureRequest, RepeatConfigureRequest, SendConfigureAck, SendConfigureNak, SendTerminateRequest, SendTerminateAck, SendCodeReject, SendEchoReply}
use Rattle.ppp_auto.specs.declared.reply.TheConstants.{MAX_FAILURE}
use Rattle.ppp_packet.specs.declared.packet_ref.TheConstants.{PACKET_HEADER}
use Rattle.ppp_auto.specs.Auto.{Auto, auto_seen, begins_anew, last_id}
use Rattle.ppp_auto.specs.EventTable.{Cell, acks, asks, cell_of, cell_seen, draws, refuses, restart_after}
use Rattle.ppp_auto.specs.OptionTable.{Table}
use Rattle.ppp_auto.specs.Outbox.{Effect, Sends, Tells, Entry, entry_of}
use Rattle.ppp_auto.specs.Packet.{Packet, Request, Nak, Other, packet_of, packet_with}
use Rattle.ppp_auto.specs.Taken.{Taken, input_of, kind, taken_as, taken_seen}

-- whether Configure-Naks are counted anew: the line came up
abbrev pub counts_anew : Input → AutoState → Bool
counts_anew on.Up Initial = true
counts_anew on.Up Starting = true
counts_anew input s = false

abbrev pub is_nak : Option Packet → Bool
is_nak (Some (Nak id options)) = true
is_nak answer = false

-- the count of Configure-Naks after a row
abbrev pub naks_after : Auto → Input → List Action → Taken → ℕ
naks_after a input actions taken =
    if counts_anew input a.state || acks actions then 0
    else if refuses actions && is_nak taken.answer then min (a.naks + 1) MAX_FAILURE
    else a.naks

-- the own list after a row that asks, where the negotiation begins or goes on, or doesn't ask
abbrev pub own_after : Table → Bool → Bool → List ConfigOption → List ConfigOption → ℕ → List ConfigOption
own_after t asked anew adapted own word = if asked then (if anew then t.initial word else adapted) else own

abbrev pub own_renewed : Table → Bool → Bool → Option (List ConfigOption) → List ConfigOption → ℕ → List ConfigOption
own_renewed t asked anew adapted own word = own_after t asked anew (unwrap_or adapted own) own word

abbrev pub after : Table → Auto → Input → Cell → Taken → ℕ → Auto
after t a input row taken word = record {
  state = row.next;
  restart = restart_after row.actions a.restart;
  naks = naks_after a input row.actions taken;
  next_id = if asks row.actions then (a.next_id + 1) % 256 else a.next_id;
  second = if draws row.actions then (a.second + 1) % 256 else a.second;
  own = own_after t (asks row.actions) (begins_anew a.state) taken.adapted a.own word;
  peer = if acks row.actions then taken.theirs else a.peer;
  cap = a.cap;
}

abbrev pub answering : Option Packet → List Effect
answering answer = map (λ packet. Sends packet) (option_to_list answer)

-- what an action does, between the end before the row and after it
abbrev pub effect_of : Auto → Auto → Taken → Action → List Effect
effect_of old new taken ThisLayerUp = Tells signal.Up ∷ []
effect_of old new taken ThisLayerDown = Tells signal.Down ∷ []
effect_of old new taken ThisLayerStarted = Tells signal.Started ∷ []
effect_of old new taken ThisLayerFinished = Tells signal.Finished ∷ []
effect_of old new taken InitializeRestartCount = []
effect_of old new taken ZeroRestartCount = []
effect_of old new taken SendConfigureRequest = Sends (Request (last_id new) new.own) ∷ []
effect_of old new taken RepeatConfigureRequest = Sends (Request (last_id new) new.own) ∷ []
effect_of old new taken SendConfigureAck = answering taken.answer
effect_of old new taken SendConfigureNak = answering taken.answer
effect_of old new taken SendTerminateRequest = Sends (Other (code_number TerminateRequest) old.second []) ∷ []
effect_of old new taken SendTerminateAck = Sends (Other (code_number TerminateAck) taken.id []) ∷ []
effect_of old new taken SendCodeReject = Sends (Other (code_number CodeReject) old.second (take (old.cap - PACKET_HEADER) taken.whole)) ∷ []
effect_of old new taken SendEchoReply = answering taken.answer

abbrev pub effects : Auto → Auto → Taken → List Action → List Effect
effects old new taken actions = flat_map (effect_of old new taken) actions

-- what a step comes to: the end after it, and what it sends and tells in order
pub record Acted : Type 0 where
  pub auto : Auto
  pub effects : List Effect

-- a row of the event table
unfoldable pub does_row : Table → Auto → Input → Taken → ℕ → Acted
does_row t a input taken word =
    let row = cell_of input a.state in
    let new = after t a input row taken word in
    record { auto = new; effects = effects a new taken row.actions }

-- an event without a packet
abbrev pub command : Table → Auto → AutoEvent → ℕ → Acted
command t a event word = let input = input_of a event in does_row t a input (taken_as a (Some input) 0) word

abbrev pub tells_rejected : Option ℕ → List Effect
tells_rejected rejects = map (λ protocol. Tells (signal.ProtocolRejected protocol)) (option_to_list rejects)

abbrev pub acts_on : Table → Auto → Taken → Option Input → ℕ → Acted
acts_on t a taken None word = record { auto = a; effects = tells_rejected taken.rejects }
acts_on t a taken (Some input) word = does_row t a input taken word

-- what was taken in does its row, if it is an event of the table
abbrev pub acts_as : Table → Auto → Taken → ℕ → Acted
acts_as t a taken word = acts_on t a taken taken.input word

-- a packet taken in
abbrev pub take_in : Table → Auto → Packet → ℕ → Acted
take_in t a packet word = acts_as t a (kind t a packet word) word

-- octets taken in: nothing happens where they are no packet
abbrev pub take_read : Table → Auto → Option Packet → ℕ → Acted
take_read t a None word = record { auto = a; effects = [] }
take_read t a (Some packet) word = take_in t a packet word

abbrev pub take_octets : Table → Auto → List ℕ → ℕ → Acted
take_octets t a octets word = take_read t a (packet_of octets) word

-- the entries of a step as the layer above sees them
abbrev pub entries_of : Acted → List Entry
entries_of acted = map entry_of acted.effects

-- What octets come to, what a packet does that was read, what the options of a Configure-Request do in octets, what
-- was taken in, and its row: the automaton after it, and the entries.
abbrev pub auto_after : Table → Auto → List ℕ → ℕ → Auto
auto_after t a octets word = (take_octets t a octets word).auto

abbrev pub entries_after : Table → Auto → List ℕ → ℕ → List Entry
entries_after t a octets word = entries_of (take_octets t a octets word)

abbrev pub takes_packet : Table → Auto → PacketRef → ℕ → Acted
takes_packet t a packet word = take_read t a (packet_with (packet_seen packet)) word

abbrev pub auto_by_packet : Table → Auto → PacketRef → ℕ → Auto
auto_by_packet t a packet word = (takes_packet t a packet word).auto

abbrev pub entries_by_packet : Table → Auto → PacketRef → ℕ → List Entry
entries_by_packet t a packet word = entries_of (takes_packet t a packet word)

abbrev pub takes_options : Table → Auto → ℕ → List ℕ → ℕ → Acted
takes_options t a id rest word = take_read t a (option_map (λ list. Request id list) (options_of rest)) word

abbrev pub auto_by_options : Table → Auto → ℕ → List ℕ → ℕ → Auto
auto_by_options t a id rest word = (takes_options t a id rest word).auto

abbrev pub entries_by_options : Table → Auto → ℕ → List ℕ → ℕ → List Entry
entries_by_options t a id rest word = entries_of (takes_options t a id rest word)

abbrev pub auto_by_taken : Table → Auto → Kept → ℕ → Auto
auto_by_taken t a taken word = (acts_as t a (taken_seen a.own taken) word).auto

abbrev pub entries_by_taken : Table → Auto → Kept → ℕ → List Entry
entries_by_taken t a taken word = entries_of (acts_as t a (taken_seen a.own taken) word)

abbrev pub auto_by_row : Table → Auto → Input → Kept → ℕ → Auto
auto_by_row t a input taken word = (does_row t a input (taken_seen a.own taken) word).auto

abbrev pub entries_by_row : Table → Auto → Input → Kept → ℕ → List Entry
entries_by_row t a input taken word = entries_of (does_row t a input (taken_seen a.own taken) word)

-- the entries of one action, and of actions, as the code has them between the steps of a row
abbrev pub entries_by : KeptAuto → Kept → Action → List Entry
entries_by a taken action = map entry_of (effect_of (auto_seen a) (auto_seen a) (taken_seen a.own taken) action)

abbrev pub all_entries_by : KeptAuto → Kept → List Action → List Entry
all_entries_by a taken actions = map entry_of (effects (auto_seen a) (auto_seen a) (taken_seen a.own taken) actions)

-- the automaton goes on by a cell, but for the Identifier of the next Terminate-Request or Code-Reject
abbrev pub GoesOn : Table → Input → KeptCell → Kept → ℕ → KeptAuto → KeptAuto → Type 0
GoesOn t input cell taken word old new =
    auto_seen new ≡ record (after t (auto_seen old) input (cell_seen cell) (taken_seen old.own taken) word) { second = old.second }

-- where a Configure-Ack is sent the peer's list can be kept
abbrev pub CanKeep : KeptCell → Kept → Type 0
CanKeep cell taken = acks (cell_seen cell).actions ≡ true → length (written (unwrap_or taken.theirs [])) ≤ 128

abbrev pub naks_counted : KeptAuto → Input → KeptCell → Kept → ℕ
naks_counted a input cell taken = naks_after (auto_seen a) input (cell_seen cell).actions (taken_seen a.own taken)
