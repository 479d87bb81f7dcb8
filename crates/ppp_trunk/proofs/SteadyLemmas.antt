-- What a link's own step tells of LCP: where it came to be Opened and left Opened, in turn; what else it keeps.
use Rattle.std.proofs.Common.{◌≡◌, ◌≢◌, ℕ, ◌+◌, ◌%◌, Bool, true, false, not, if◌then◌else◌, List, [], ◌∷◌, ◌++◌, length, refl, sym, ap, subst, ◌∙◌, inl, inr, arith, true≢false, unwrap_or}
use Rattle.std.specs.Prelude.{◌⊎◌, ◌==◌, ◌||◌, ◌&&◌, nat_lt, Option, Some, None, map, option_map}
use Rattle.std.specs.List.{AllByRecursion, fold}
use Rattle.std.specs.Option.{option_to_list}
use Rattle.std.proofs.lemmas.List.Sums.{fold-append}
use Rattle.ppp_packet.specs.Code.{code_number}
use Rattle.ppp_packet.specs.ConfigOption.{ConfigOption}
use Rattle.ppp_packet.specs.declared.code.Code.TheVariants.{TerminateRequest, TerminateAck, CodeReject, ProtocolReject}
use Rattle.ppp_packet.specs.Proto.{proto_number, proto_of}
use Rattle.ppp_packet.specs.declared.proto.Proto.{Proto}
use Rattle.ppp_packet.specs.declared.proto.Proto.TheVariants.{Lcp, Ip, Ipv6, Osi, Mpls, Bacp}
use Rattle.ppp_auto.specs.declared.auto_state.AutoState.{AutoState}
use Rattle.ppp_auto.specs.declared.auto_event.AutoEvent.{AutoEvent}
use Rattle.ppp_auto.specs.declared.auto_event.AutoEvent.TheVariants.{Up, Down, AdminOpen, AdminClose, Timeout, RejectedWell, RejectedBadly}
use Rattle.ppp_auto.specs.declared.input.Input.{Input}
use Rattle.ppp_auto.specs.declared.input.Input.TheVariants as on
use Rattle.ppp_auto.specs.declared.action.Action.{Action}
use Rattle.ppp_auto.specs.declared.action.Action.TheVariants.{ThisLayerUp, ThisLayerDown, ThisLayerStarted, ThisLayerFinished, InitializeRestartCount, ZeroRestartCount, SendConfigureRequest, RepeatConfigureRequest, SendConfigureAck, SendConfigureNak, SendTerminateRequest, SendTerminateAck, SendCodeReject, SendEchoReply}
use Rattle.ppp_auto.specs.declared.layer_signal.LayerSignal.{LayerSignal}
use Rattle.ppp_auto.specs.declared.layer_signal.LayerSignal.TheVariants as signal
use Rattle.ppp_auto.specs.Auto.{Auto, begins_anew, granted_if, has_acked, is_heard, is_off, is_opened}
use Rattle.ppp_auto.specs.Automaton.{acts_on, after as row_after, does_row, effects, entries_of, own_after, take_read, tells_rejected}
use Rattle.ppp_auto.specs.EventTable.{acks, asks, cell_of}
use Rattle.ppp_auto.specs.OptionTable.{Table}
use Rattle.ppp_auto.specs.Outbox.{Effect, Sends, Entry as Told, Send, Signal, entry_of}
use Rattle.ppp_auto.specs.Packet.{Packet, Request, Ack, Nak, Reject, Other, packet_of}
use Rattle.ppp_auto.specs.Reply.{reply_to}
use Rattle.ppp_auto.specs.Taken.{Taken, code_reject_input, extended_taken, input_of, is_ack_of, is_extended_code, is_nak_of, is_reject_of, judging, kind, taken_as}
use Rattle.ppp_auto.proofs.ReplyLemmas.{reply_input}
use Rattle.ppp_frame.specs.Deframer.{feed_step}
use Rattle.ppp_frame.specs.declared.form.Form.{Form}
use Rattle.ppp_frame.specs.Header.{Read}
use Rattle.ppp_link.specs.Automata.{Automata, auto_at, form_for}
use Rattle.ppp_link.specs.Link.{Fed, Link, fed_with, read_by}
use Rattle.ppp_link.specs.LinkOut.{Entry, Push, LcpUp, LcpDown, Finished, NetUp, NetDown, Payload}
use Rattle.ppp_link.specs.LinkTables.{LinkTables, table_of}
use Rattle.ppp_link.specs.Steps.{Did, Given, Event, Packet as Octets, acted, after, and_tells, begins, does, does_rejected, hears, hears_as, hears_other, hears_read, is_payload, net_told, rejected_if, rejected_in, rejects, signal_told, takes, there, told_all, told_by}
use Rattle.ppp_trunk.specs.Control.{key_in, terms_in}
use Rattle.ppp_trunk.specs.Orders.{auto_by, caps_after, is_same, order_of, own_order}
use Rattle.ppp_trunk.specs.Steps.{Happening, LineUp, LineDown, Opens, Closes, TimesOut, Takes, TellsInTurn, link_does}
use Rattle.ppp_trunk.proofs.ListLemmas.{AllByRecursion-append}
use Rattle.ppp_trunk.proofs.OrdersLemmas.{auto_by-append, given-auto, no-orders, reject-auto, same-proto}

-- ---- cells of the event table

-- the event is the lower layer's
abbrev is_lower : Input → Bool
is_lower on.Up = true
is_lower on.Down = true
is_lower input = false

-- whether an automaton is Opened after an action that tells so
abbrev opened_with : Bool → Action → Bool
opened_with opened ThisLayerUp = true
opened_with opened ThisLayerDown = false
opened_with opened action = opened

row-opened : (i : Input) (s : AutoState) → fold opened_with (is_opened s) (cell_of i s).actions ≡ is_opened (cell_of i s).next
row-opened i s = grind arith

row-off : (i : Input) (s : AutoState) → is_lower i ≡ false → is_off (cell_of i s).next ≡ is_off s
row-off i s h = grind arith

pub up-on : (s : AutoState) → is_off (cell_of on.Up s).next ≡ false
up-on s = grind arith

pub down-off : (s : AutoState) → is_off (cell_of on.Down s).next ≡ true
down-off s = grind arith

-- ---- what LCP tells

-- whether LCP is Opened after an entry that tells so
abbrev pub opened_after : Bool → Entry → Bool
opened_after opened LcpUp = true
opened_after opened LcpDown = false
opened_after opened entry = opened

abbrev pub all_opened : Bool → List Entry → Bool
all_opened opened es = fold opened_after opened es

answer-opened : (form : Form) (opened : Bool) (o : Option Packet) (es : List Effect) →
    all_opened opened (told_all form Lcp (map entry_of ((map (λ packet. Sends packet) (option_to_list o)) ++ es))) ≡ all_opened opened (told_all form Lcp (map entry_of es))
answer-opened form opened None es = refl
answer-opened form opened (Some packet) es = refl

effects-opened : (form : Form) (old new : Auto) (taken : Taken) (actions : List Action) (opened : Bool) →
    all_opened opened (told_all form Lcp (map entry_of (effects old new taken actions))) ≡ fold opened_with opened actions
effects-opened form old new taken [] opened = refl
effects-opened form old new taken (ThisLayerUp ∷ actions) opened = effects-opened form old new taken actions true
effects-opened form old new taken (ThisLayerDown ∷ actions) opened = effects-opened form old new taken actions false
effects-opened form old new taken (ThisLayerStarted ∷ actions) opened = effects-opened form old new taken actions opened
effects-opened form old new taken (ThisLayerFinished ∷ actions) opened = effects-opened form old new taken actions opened
effects-opened form old new taken (InitializeRestartCount ∷ actions) opened = effects-opened form old new taken actions opened
effects-opened form old new taken (ZeroRestartCount ∷ actions) opened = effects-opened form old new taken actions opened
effects-opened form old new taken (SendConfigureRequest ∷ actions) opened = effects-opened form old new taken actions opened
effects-opened form old new taken (RepeatConfigureRequest ∷ actions) opened = effects-opened form old new taken actions opened
effects-opened form old new taken (SendConfigureAck ∷ actions) opened = answer-opened form opened taken.answer (effects old new taken actions) ∙ effects-opened form old new taken actions opened
effects-opened form old new taken (SendConfigureNak ∷ actions) opened = answer-opened form opened taken.answer (effects old new taken actions) ∙ effects-opened form old new taken actions opened
effects-opened form old new taken (SendTerminateRequest ∷ actions) opened = effects-opened form old new taken actions opened
effects-opened form old new taken (SendTerminateAck ∷ actions) opened = effects-opened form old new taken actions opened
effects-opened form old new taken (SendCodeReject ∷ actions) opened = effects-opened form old new taken actions opened
effects-opened form old new taken (SendEchoReply ∷ actions) opened = answer-opened form opened taken.answer (effects old new taken actions) ∙ effects-opened form old new taken actions opened

rejected-opened : (form : Form) (opened : Bool) (o : Option ℕ) → all_opened opened (told_all form Lcp (map entry_of (tells_rejected o))) ≡ opened
rejected-opened form opened None = refl
rejected-opened form opened (Some n) = refl

acts-opened : (form : Form) (t : Table) (a : Auto) (taken : Taken) (o : Option Input) (word : ℕ) →
    all_opened (is_opened a.state) (told_all form Lcp (entries_of (acts_on t a taken o word))) ≡ is_opened (acts_on t a taken o word).auto.state
unfolding does_row
acts-opened form t a taken None word = rejected-opened form (is_opened a.state) taken.rejects
acts-opened form t a taken (Some input) word =
    let row = cell_of input a.state in
    effects-opened form a (row_after t a input row taken word) taken row.actions (is_opened a.state) ∙ row-opened input a.state

read-opened : (form : Form) (t : Table) (a : Auto) (o : Option Packet) (word : ℕ) →
    all_opened (is_opened a.state) (told_all form Lcp (entries_of (take_read t a o word))) ≡ is_opened (take_read t a o word).auto.state
read-opened form t a None word = refl
read-opened form t a (Some packet) word = let taken = kind t a packet word in acts-opened form t a taken taken.input word

acted-opened : (form : Form) (t : Table) (given : Given) (word : ℕ) (a : Auto) →
    all_opened (is_opened a.state) (told_all form Lcp (entries_of (acted t given word a))) ≡ is_opened (acted t given word a).auto.state
acted-opened form t (Event event) word a = let input = input_of a event in acts-opened form t a (taken_as a (Some input) 0) (Some input) word
acted-opened form t (Octets octets) word a = read-opened form t a (packet_of octets) word

-- an entry is no signal of LCP to be Up or Down
abbrev is_quiet : Entry → Bool
is_quiet LcpUp = false
is_quiet LcpDown = false
is_quiet entry = true

abbrev AreQuiet : List Entry → Type 0
AreQuiet es = AllByRecursion (λ e. is_quiet e ≡ true) es

net-quiet : (q : Proto) (told : LayerSignal) → AreQuiet (net_told q told)
net-quiet q signal.Up = (refl, tt)
net-quiet q signal.Down = (refl, tt)
net-quiet q signal.Started = tt
net-quiet q signal.Finished = tt
net-quiet q (signal.ProtocolRejected n) = tt

-- no other protocol tells one
signal-quiet : (q : Proto) (told : LayerSignal) → is_same Lcp q ≡ false → AreQuiet (signal_told q told)
signal-quiet Lcp told other = absurd (cc)
signal-quiet Ip told other = net-quiet Ip told
signal-quiet Ipv6 told other = net-quiet Ipv6 told
signal-quiet Osi told other = net-quiet Osi told
signal-quiet Mpls told other = net-quiet Mpls told
signal-quiet Bacp told other = net-quiet Bacp told

told-quiet : (form : Form) (q : Proto) (es : List Told) → is_same Lcp q ≡ false → AreQuiet (told_all form q es)
told-quiet form q [] other = tt
told-quiet form q (Send octets ∷ es) other = (refl, told-quiet form q es other)
told-quiet form q (Signal told ∷ es) other =
    AllByRecursion-append (λ e. is_quiet e ≡ true) (signal_told q told) (told_all form q es) (signal-quiet q told other) (told-quiet form q es other)

quiet-opened : (es : List Entry) (opened : Bool) → AreQuiet es → all_opened opened es ≡ opened
quiet-opened [] opened quiet = refl
quiet-opened (Push octets ∷ es) opened quiet = quiet-opened es opened quiet.1
quiet-opened (LcpUp ∷ es) opened quiet = absurd (true≢false (sym quiet.0))
quiet-opened (LcpDown ∷ es) opened quiet = absurd (true≢false (sym quiet.0))
quiet-opened (Finished ∷ es) opened quiet = quiet-opened es opened quiet.1
quiet-opened (NetUp p ∷ es) opened quiet = quiet-opened es opened quiet.1
quiet-opened (NetDown p ∷ es) opened quiet = quiet-opened es opened quiet.1
quiet-opened (Payload number octets ∷ es) opened quiet = quiet-opened es opened quiet.1

other-opened : (form : Form) (q : Proto) (es : List Told) (opened : Bool) → is_same Lcp q ≡ false → all_opened opened (told_all form q es) ≡ opened
other-opened form q es opened other = quiet-opened (told_all form q es) opened (told-quiet form q es other)

told-opened : (form : Form) (t : LinkTables) (q : Proto) (given : Given) (word : ℕ) (k : Automata) →
    all_opened (is_opened k.lcp.state) (told_all form q (told_by t q given word k)) ≡ is_opened (after t q given word k).lcp.state
told-opened form t Lcp given word k = acted-opened form (table_of t Lcp) given word k.lcp
told-opened form t Ip given word k = other-opened form Ip (told_by t Ip given word k) (is_opened k.lcp.state) refl
told-opened form t Ipv6 given word k = other-opened form Ipv6 (told_by t Ipv6 given word k) (is_opened k.lcp.state) refl
told-opened form t Osi given word k = other-opened form Osi (told_by t Osi given word k) (is_opened k.lcp.state) refl
told-opened form t Mpls given word k = other-opened form Mpls (told_by t Mpls given word k) (is_opened k.lcp.state) refl
told-opened form t Bacp given word k = other-opened form Bacp (told_by t Bacp given word k) (is_opened k.lcp.state) refl

-- ---- it tells so in turn

-- Up is told only where it wasn't Opened
abbrev acts_in_turn : Bool → List Action → Bool
acts_in_turn opened [] = true
acts_in_turn opened (ThisLayerUp ∷ actions) = not opened && acts_in_turn true actions
acts_in_turn opened (ThisLayerDown ∷ actions) = acts_in_turn false actions
acts_in_turn opened (action ∷ actions) = acts_in_turn opened actions

row-turn : (i : Input) (s : AutoState) → acts_in_turn (is_opened s) (cell_of i s).actions ≡ true
row-turn i s = grind arith

and-both : (opened rest : Bool) → (not opened && rest) ≡ true → (opened ≡ false) × (rest ≡ true)
and-both true rest both = absurd (true≢false (sym both))
and-both false rest both = (refl, both)

pub turn-append : (opened : Bool) (xs ys : List Entry) → TellsInTurn opened xs → TellsInTurn (all_opened opened xs) ys → TellsInTurn opened (xs ++ ys)
turn-append opened [] ys first rest = rest
turn-append opened (Push octets ∷ xs) ys first rest = turn-append opened xs ys first rest
turn-append opened (LcpUp ∷ xs) ys first rest = (first.0, turn-append true xs ys first.1 rest)
turn-append opened (LcpDown ∷ xs) ys first rest = turn-append false xs ys first rest
turn-append opened (Finished ∷ xs) ys first rest = turn-append opened xs ys first rest
turn-append opened (NetUp p ∷ xs) ys first rest = turn-append opened xs ys first rest
turn-append opened (NetDown p ∷ xs) ys first rest = turn-append opened xs ys first rest
turn-append opened (Payload number octets ∷ xs) ys first rest = turn-append opened xs ys first rest

quiet-turn : (es : List Entry) (opened : Bool) → AreQuiet es → TellsInTurn opened es
quiet-turn [] opened quiet = tt
quiet-turn (Push octets ∷ es) opened quiet = quiet-turn es opened quiet.1
quiet-turn (LcpUp ∷ es) opened quiet = absurd (true≢false (sym quiet.0))
quiet-turn (LcpDown ∷ es) opened quiet = absurd (true≢false (sym quiet.0))
quiet-turn (Finished ∷ es) opened quiet = quiet-turn es opened quiet.1
quiet-turn (NetUp p ∷ es) opened quiet = quiet-turn es opened quiet.1
quiet-turn (NetDown p ∷ es) opened quiet = quiet-turn es opened quiet.1
quiet-turn (Payload number octets ∷ es) opened quiet = quiet-turn es opened quiet.1

answer-turn : (form : Form) (opened : Bool) (o : Option Packet) (es : List Effect) →
    TellsInTurn opened (told_all form Lcp (map entry_of es)) → TellsInTurn opened (told_all form Lcp (map entry_of ((map (λ packet. Sends packet) (option_to_list o)) ++ es)))
answer-turn form opened None es rest = rest
answer-turn form opened (Some packet) es rest = rest

effects-turn : (form : Form) (old new : Auto) (taken : Taken) (actions : List Action) (opened : Bool) → acts_in_turn opened actions ≡ true →
    TellsInTurn opened (told_all form Lcp (map entry_of (effects old new taken actions)))
effects-turn form old new taken [] opened turn = tt
effects-turn form old new taken (ThisLayerUp ∷ actions) opened turn =
    let both = and-both opened (acts_in_turn true actions) turn in (both.0, effects-turn form old new taken actions true both.1)
effects-turn form old new taken (ThisLayerDown ∷ actions) opened turn = effects-turn form old new taken actions false turn
effects-turn form old new taken (ThisLayerStarted ∷ actions) opened turn = effects-turn form old new taken actions opened turn
effects-turn form old new taken (ThisLayerFinished ∷ actions) opened turn = effects-turn form old new taken actions opened turn
effects-turn form old new taken (InitializeRestartCount ∷ actions) opened turn = effects-turn form old new taken actions opened turn
effects-turn form old new taken (ZeroRestartCount ∷ actions) opened turn = effects-turn form old new taken actions opened turn
effects-turn form old new taken (SendConfigureRequest ∷ actions) opened turn = effects-turn form old new taken actions opened turn
effects-turn form old new taken (RepeatConfigureRequest ∷ actions) opened turn = effects-turn form old new taken actions opened turn
effects-turn form old new taken (SendConfigureAck ∷ actions) opened turn = answer-turn form opened taken.answer (effects old new taken actions) (effects-turn form old new taken actions opened turn)
effects-turn form old new taken (SendConfigureNak ∷ actions) opened turn = answer-turn form opened taken.answer (effects old new taken actions) (effects-turn form old new taken actions opened turn)
effects-turn form old new taken (SendTerminateRequest ∷ actions) opened turn = effects-turn form old new taken actions opened turn
effects-turn form old new taken (SendTerminateAck ∷ actions) opened turn = effects-turn form old new taken actions opened turn
effects-turn form old new taken (SendCodeReject ∷ actions) opened turn = effects-turn form old new taken actions opened turn
effects-turn form old new taken (SendEchoReply ∷ actions) opened turn = answer-turn form opened taken.answer (effects old new taken actions) (effects-turn form old new taken actions opened turn)

rejected-turn : (form : Form) (opened : Bool) (o : Option ℕ) → TellsInTurn opened (told_all form Lcp (map entry_of (tells_rejected o)))
rejected-turn form opened None = tt
rejected-turn form opened (Some n) = tt

acts-turn : (form : Form) (t : Table) (a : Auto) (taken : Taken) (o : Option Input) (word : ℕ) →
    TellsInTurn (is_opened a.state) (told_all form Lcp (entries_of (acts_on t a taken o word)))
unfolding does_row
acts-turn form t a taken None word = rejected-turn form (is_opened a.state) taken.rejects
acts-turn form t a taken (Some input) word =
    let row = cell_of input a.state in
    effects-turn form a (row_after t a input row taken word) taken row.actions (is_opened a.state) (row-turn input a.state)

read-turn : (form : Form) (t : Table) (a : Auto) (o : Option Packet) (word : ℕ) → TellsInTurn (is_opened a.state) (told_all form Lcp (entries_of (take_read t a o word)))
read-turn form t a None word = tt
read-turn form t a (Some packet) word = let taken = kind t a packet word in acts-turn form t a taken taken.input word

acted-turn : (form : Form) (t : Table) (given : Given) (word : ℕ) (a : Auto) → TellsInTurn (is_opened a.state) (told_all form Lcp (entries_of (acted t given word a)))
acted-turn form t (Event event) word a = let input = input_of a event in acts-turn form t a (taken_as a (Some input) 0) (Some input) word
acted-turn form t (Octets octets) word a = read-turn form t a (packet_of octets) word

other-turn : (form : Form) (q : Proto) (es : List Told) (opened : Bool) → is_same Lcp q ≡ false → TellsInTurn opened (told_all form q es)
other-turn form q es opened other = quiet-turn (told_all form q es) opened (told-quiet form q es other)

told-turn : (form : Form) (t : LinkTables) (q : Proto) (given : Given) (word : ℕ) (k : Automata) →
    TellsInTurn (is_opened k.lcp.state) (told_all form q (told_by t q given word k))
told-turn form t Lcp given word k = acted-turn form (table_of t Lcp) given word k.lcp
told-turn form t Ip given word k = other-turn form Ip (told_by t Ip given word k) (is_opened k.lcp.state) refl
told-turn form t Ipv6 given word k = other-turn form Ipv6 (told_by t Ipv6 given word k) (is_opened k.lcp.state) refl
told-turn form t Osi given word k = other-turn form Osi (told_by t Osi given word k) (is_opened k.lcp.state) refl
told-turn form t Mpls given word k = other-turn form Mpls (told_by t Mpls given word k) (is_opened k.lcp.state) refl
told-turn form t Bacp given word k = other-turn form Bacp (told_by t Bacp given word k) (is_opened k.lcp.state) refl

-- ---- what LCP grants while it stays Opened

-- an entry isn't that LCP left Opened
abbrev is_still : Entry → Bool
is_still LcpDown = false
is_still entry = true

-- LCP doesn't tell that it left Opened
abbrev pub IsStill : List Entry → Type 0
IsStill es = AllByRecursion (λ e. is_still e ≡ true) es

still-front : (xs ys : List Entry) → IsStill (xs ++ ys) → IsStill xs
still-front [] ys still = tt
still-front (x ∷ xs) ys still = (still.0, still-front xs ys still.1)

still-behind : (xs ys : List Entry) → IsStill (xs ++ ys) → IsStill ys
still-behind [] ys still = still
still-behind (x ∷ xs) ys still = still-behind xs ys still.1

still-opened : (es : List Entry) → IsStill es → all_opened true es ≡ true
still-opened [] still = refl
still-opened (Push octets ∷ es) still = still-opened es still.1
still-opened (LcpUp ∷ es) still = still-opened es still.1
still-opened (LcpDown ∷ es) still = absurd (true≢false (sym still.0))
still-opened (Finished ∷ es) still = still-opened es still.1
still-opened (NetUp p ∷ es) still = still-opened es still.1
still-opened (NetDown p ∷ es) still = still-opened es still.1
still-opened (Payload number octets ∷ es) still = still-opened es still.1

abbrev goes_down : List Action → Bool
goes_down [] = false
goes_down (ThisLayerDown ∷ actions) = true
goes_down (action ∷ actions) = goes_down actions

-- a row that doesn't leave Opened neither asks nor acknowledges
row-asks : (i : Input) (s : AutoState) → is_opened s ≡ true → goes_down (cell_of i s).actions ≡ false → asks (cell_of i s).actions ≡ false
row-asks i s opened still = grind arith

row-acks : (i : Input) (s : AutoState) → is_opened s ≡ true → goes_down (cell_of i s).actions ≡ false → acks (cell_of i s).actions ≡ false
row-acks i s opened still = grind arith

row-stays : (i : Input) (s : AutoState) → is_opened s ≡ true → goes_down (cell_of i s).actions ≡ false → (cell_of i s).next ≡ s
row-stays i s opened still = grind arith

answer-still : (form : Form) (o : Option Packet) (es : List Effect) →
    IsStill (told_all form Lcp (map entry_of ((map (λ packet. Sends packet) (option_to_list o)) ++ es))) → IsStill (told_all form Lcp (map entry_of es))
answer-still form None es still = still
answer-still form (Some packet) es still = still.1

effects-still : (form : Form) (old new : Auto) (taken : Taken) (actions : List Action) →
    IsStill (told_all form Lcp (map entry_of (effects old new taken actions))) → goes_down actions ≡ false
effects-still form old new taken [] still = refl
effects-still form old new taken (ThisLayerUp ∷ actions) still = effects-still form old new taken actions still.1
effects-still form old new taken (ThisLayerDown ∷ actions) still = absurd (true≢false (sym still.0))
effects-still form old new taken (ThisLayerStarted ∷ actions) still = effects-still form old new taken actions still
effects-still form old new taken (ThisLayerFinished ∷ actions) still = effects-still form old new taken actions still.1
effects-still form old new taken (InitializeRestartCount ∷ actions) still = effects-still form old new taken actions still
effects-still form old new taken (ZeroRestartCount ∷ actions) still = effects-still form old new taken actions still
effects-still form old new taken (SendConfigureRequest ∷ actions) still = effects-still form old new taken actions still.1
effects-still form old new taken (RepeatConfigureRequest ∷ actions) still = effects-still form old new taken actions still.1
effects-still form old new taken (SendConfigureAck ∷ actions) still = effects-still form old new taken actions (answer-still form taken.answer (effects old new taken actions) still)
effects-still form old new taken (SendConfigureNak ∷ actions) still = effects-still form old new taken actions (answer-still form taken.answer (effects old new taken actions) still)
effects-still form old new taken (SendTerminateRequest ∷ actions) still = effects-still form old new taken actions still.1
effects-still form old new taken (SendTerminateAck ∷ actions) still = effects-still form old new taken actions still.1
effects-still form old new taken (SendCodeReject ∷ actions) still = effects-still form old new taken actions still.1
effects-still form old new taken (SendEchoReply ∷ actions) still = effects-still form old new taken actions (answer-still form taken.answer (effects old new taken actions) still)

-- what LCP grants rests on its state and its two lists
same-key : (a b : Auto) → b.state ≡ a.state → b.own ≡ a.own → b.peer ≡ a.peer → key_in b ≡ key_in a
same-key a b state own peer = λ i. record {
  mine = terms_in (unwrap_or (granted_if (is_heard (state i)) (own i)) []);
  peer = terms_in (unwrap_or (granted_if (has_acked (state i)) (peer i)) []);
}

not-asked : (t : Table) (asked anew : Bool) (adapted own : List ConfigOption) (word : ℕ) → asked ≡ false → own_after t asked anew adapted own word ≡ own
not-asked t true anew adapted own word never = absurd (true≢false never)
not-asked t false anew adapted own word never = refl

not-acked : (acked : Bool) (theirs peer : List ConfigOption) → acked ≡ false → (if acked then theirs else peer) ≡ peer
not-acked true theirs peer never = absurd (true≢false never)
not-acked false theirs peer never = refl

acts-keeps : (form : Form) (t : Table) (a : Auto) (taken : Taken) (o : Option Input) (word : ℕ) → is_opened a.state ≡ true →
    IsStill (told_all form Lcp (entries_of (acts_on t a taken o word))) → key_in (acts_on t a taken o word).auto ≡ key_in a
unfolding does_row
acts-keeps form t a taken None word opened still = refl
acts-keeps form t a taken (Some input) word opened still =
    let row = cell_of input a.state in
    let new = row_after t a input row taken word in
    let stays = effects-still form a new taken row.actions still in
    same-key a new (row-stays input a.state opened stays)
    (not-asked t (asks row.actions) (begins_anew a.state) taken.adapted a.own word (row-asks input a.state opened stays))
    (not-acked (acks row.actions) taken.theirs a.peer (row-acks input a.state opened stays))

read-keeps : (form : Form) (t : Table) (a : Auto) (o : Option Packet) (word : ℕ) → is_opened a.state ≡ true →
    IsStill (told_all form Lcp (entries_of (take_read t a o word))) → key_in (take_read t a o word).auto ≡ key_in a
read-keeps form t a None word opened still = refl
read-keeps form t a (Some packet) word opened still = let taken = kind t a packet word in acts-keeps form t a taken taken.input word opened still

acted-keeps : (form : Form) (t : Table) (given : Given) (word : ℕ) (a : Auto) → is_opened a.state ≡ true →
    IsStill (told_all form Lcp (entries_of (acted t given word a))) → key_in (acted t given word a).auto ≡ key_in a
acted-keeps form t (Event event) word a opened still = let input = input_of a event in acts-keeps form t a (taken_as a (Some input) 0) (Some input) word opened still
acted-keeps form t (Octets octets) word a opened still = read-keeps form t a (packet_of octets) word opened still

told-keeps : (form : Form) (t : LinkTables) (q : Proto) (given : Given) (word : ℕ) (k : Automata) → is_opened k.lcp.state ≡ true →
    IsStill (told_all form q (told_by t q given word k)) → key_in (after t q given word k).lcp ≡ key_in k.lcp
told-keeps form t Lcp given word k opened still = acted-keeps form (table_of t Lcp) given word k.lcp opened still
told-keeps form t Ip given word k opened still = refl
told-keeps form t Ipv6 given word k opened still = refl
told-keeps form t Osi given word k opened still = refl
told-keeps form t Mpls given word k opened still = refl
told-keeps form t Bacp given word k opened still = refl

-- ---- what keeps an automaton in Initial and Starting, or beyond them

abbrev lower_if : Option Input → Bool
lower_if None = false
lower_if (Some input) = is_lower input

-- no packet is the lower layer's event
higher-if : (b : Bool) (one other : Taken) → lower_if one.input ≡ false → lower_if other.input ≡ false → lower_if (if b then one else other).input ≡ false
higher-if true one other h k = h
higher-if false one other h k = k

ack-higher : (b : Bool) → lower_if (if b then Some on.ReceiveConfigureAck else None) ≡ false
ack-higher true = refl
ack-higher false = refl

reject-higher : (octets : List ℕ) → lower_if (code_reject_input octets) ≡ false
reject-higher [] = refl
reject-higher (code ∷ rest) = either _
  where
    either : (b : Bool) → is_lower (if b then on.ReceiveRejectCatastrophic else on.ReceiveRejectPermitted) ≡ false
    either true = refl
    either false = refl

request-higher : (input : Input) → (input ≡ on.ReceiveConfigureRequestGood) ⊎ (input ≡ on.ReceiveConfigureRequestBad) → is_lower input ≡ false
request-higher input (inl is) = ap is_lower is
request-higher input (inr is) = ap is_lower is

extended-higher : (t : Table) (a : Auto) (code id : ℕ) (octets : List ℕ) → lower_if (extended_taken t a code id octets).input ≡ false
extended-higher t a code id octets = higher-if (code == code_number ProtocolReject) _ _ refl (higher-if (nat_lt (length octets) 4) _ _ refl refl)

kind-higher : (t : Table) (a : Auto) (packet : Packet) (word : ℕ) → lower_if (kind t a packet word).input ≡ false
kind-higher t a (Request id theirs) word =
    request-higher (reply_to t (judging t a word) a.naks word id theirs).input (reply_input a.naks id theirs _ _ _ _)
kind-higher t a (Ack id options) word = ack-higher (is_ack_of a id options)
kind-higher t a (Nak id options) word = higher-if (is_nak_of a id options) _ _ refl refl
kind-higher t a (Reject id options) word = higher-if (is_reject_of a id options) _ _ refl refl
kind-higher t a (Other code id octets) word =
    higher-if (code == code_number TerminateRequest) _ _ refl
    (higher-if (code == code_number TerminateAck) _ _ refl
    (higher-if (code == code_number CodeReject) _ _ (reject-higher octets)
    (higher-if (t.extended && is_extended_code code) _ _ (extended-higher t a code id octets) refl)))

acts-off : (t : Table) (a : Auto) (taken : Taken) (o : Option Input) (word : ℕ) → lower_if o ≡ false → is_off (acts_on t a taken o word).auto.state ≡ is_off a.state
unfolding does_row
acts-off t a taken None word h = refl
acts-off t a taken (Some input) word h = row-off input a.state h

read-off : (t : Table) (a : Auto) (o : Option Packet) (word : ℕ) → is_off (take_read t a o word).auto.state ≡ is_off a.state
read-off t a None word = refl
read-off t a (Some packet) word = let taken = kind t a packet word in acts-off t a taken taken.input word (kind-higher t a packet word)

-- what happens is an event of the lower layer
abbrev is_run : Given → Bool
is_run (Event Up) = true
is_run (Event Down) = true
is_run given = false

event-higher : (a : Auto) (event : AutoEvent) → is_run (Event event) ≡ false → is_lower (input_of a event) ≡ false
event-higher a Up h = absurd (cc)
event-higher a Down h = absurd (cc)
event-higher a AdminOpen h = refl
event-higher a AdminClose h = refl
event-higher a Timeout h = either (nat_lt 0 a.restart)
  where
    either : (b : Bool) → is_lower (if b then on.TimeoutAboveZero else on.TimeoutExpired) ≡ false
    either true = refl
    either false = refl
event-higher a RejectedWell h = refl
event-higher a RejectedBadly h = refl

acted-off : (t : Table) (given : Given) (word : ℕ) (a : Auto) → is_run given ≡ false → is_off (acted t given word a).auto.state ≡ is_off a.state
acted-off t (Event event) word a h = let input = input_of a event in acts-off t a (taken_as a (Some input) 0) (Some input) word (event-higher a event h)
acted-off t (Octets octets) word a h = read-off t a (packet_of octets) word

-- whether an automaton is in Initial or Starting, where it is configured
abbrev pub off_if : Option Auto → Option Bool
off_if o = option_map (λ a. is_off a.state) o

order-off : (t : LinkTables) (p : Proto) (word : ℕ) (given : Given) (o : Option Auto) → is_run given ≡ false → off_if (auto_by t p word (order_of given ∷ []) o) ≡ off_if o
order-off t p word given None h = refl
order-off t p word (Event event) (Some a) h = ap (λ (b : Bool). Some b) (acted-off (table_of t p) (Event event) word a h)
order-off t p word (Octets octets) (Some a) h = ap (λ (b : Bool). Some b) (acted-off (table_of t p) (Octets octets) word a h)

-- it happens to LCP, or is no event of the lower layer
abbrev IsAside : Proto → Given → Type 0
IsAside q given = (q ≡ Lcp) ⊎ (is_run given ≡ false)

aside-run : (p q : Proto) (given : Given) → p ≢ Lcp → p ≡ q → IsAside q given → is_run given ≡ false
aside-run p q given other same (inl lcp) = absurd (other (same ∙ lcp))
aside-run p q given other same (inr higher) = higher

own-off : (t : LinkTables) (p q : Proto) (word : ℕ) (given : Given) (o : Option Auto) (b : Bool) → is_same p q ≡ b → p ≢ Lcp → IsAside q given →
    off_if (auto_by t p word (if b then order_of given ∷ [] else []) o) ≡ off_if o
own-off t p q word given o true same other aside = order-off t p word given o (aside-run p q given other (same-proto p q same) aside)
own-off t p q word given o false same other aside = ap off_if (no-orders t p word o).0

caps-off : (t : LinkTables) (p : Proto) (word : ℕ) (q : Proto) (k : Automata) (o : Option Auto) → off_if (auto_by t p word (caps_after q k) o) ≡ off_if o
caps-off t p word Lcp k None = refl
caps-off t p word Lcp k (Some a) = refl
caps-off t p word Ip k o = ap off_if (no-orders t p word o).0
caps-off t p word Ipv6 k o = ap off_if (no-orders t p word o).0
caps-off t p word Osi k o = ap off_if (no-orders t p word o).0
caps-off t p word Mpls k o = ap off_if (no-orders t p word o).0
caps-off t p word Bacp k o = ap off_if (no-orders t p word o).0

given-off : (t : LinkTables) (p q : Proto) (word : ℕ) (given : Given) (k : Automata) → p ≢ Lcp → IsAside q given → off_if (auto_at (after t q given word k) p) ≡ off_if (auto_at k p)
given-off t p q word given k other aside =
    let o = auto_at k p in
    let caps = caps_after q (after t q given word k) in
    ap off_if (given-auto p t word q given k ∙ auto_by-append t p word (own_order p q given) caps o)
    ∙ caps-off t p word q (after t q given word k) (auto_by t p word (own_order p q given) o)
    ∙ own-off t p q word given o (is_same p q) refl other aside

-- ---- what was done on a link

-- Since the automata stood so, the entries tell in turn whether LCP is Opened now, LCP grants the same where it never left
-- Opened, and no other one came to Initial and Starting or left them.
pub record IsSteady (k : Automata) (did : Did) : Type 0 where
  pub opened : all_opened (is_opened k.lcp.state) did.out ≡ is_opened did.automata.lcp.state
  pub turn : TellsInTurn (is_opened k.lcp.state) did.out
  pub keeps : is_opened k.lcp.state ≡ true → IsStill did.out → key_in did.automata.lcp ≡ key_in k.lcp
  pub off : (p : Proto) → p ≢ Lcp → off_if (auto_at did.automata p) ≡ off_if (auto_at k p)

begins-steady : (k : Automata) → IsSteady k (begins k)
begins-steady k = record { opened = refl; turn = tt; keeps = λ was still. refl; off = λ p other. refl }

still-so : (k : Automata) (did : Did) → IsSteady k did → is_opened k.lcp.state ≡ true → IsStill did.out → is_opened did.automata.lcp.state ≡ true
still-so k did steady was still = sym steady.opened ∙ ap (λ opened. all_opened opened did.out) was ∙ still-opened did.out still

given-steady : (k : Automata) (t : LinkTables) (q : Proto) (given : Given) (word : ℕ) (did : Did) → IsAside q given → IsSteady k did → IsSteady k (does t q given word did)
unfolding does
given-steady k t q given word did aside steady =
    let form = form_for (after t q given word did.automata).lcp q in
    let es = told_all form q (told_by t q given word did.automata) in
    record {
      opened =
          fold-append opened_after (is_opened k.lcp.state) did.out es
          ∙ ap (λ opened. all_opened opened es) steady.opened
          ∙ told-opened form t q given word did.automata;
      turn =
          turn-append (is_opened k.lcp.state) did.out es steady.turn
          (subst (λ opened. TellsInTurn opened es) (sym steady.opened) (told-turn form t q given word did.automata));
      keeps = λ was still.
          let before = still-front did.out es still in
          told-keeps form t q given word did.automata (still-so k did steady was before) (still-behind did.out es still)
          ∙ steady.keeps was before;
      off = λ p other. given-off t p q word given did.automata other aside ∙ steady.off p other;
    }

there-steady : (k : Automata) (t : LinkTables) (o : Option Proto) (word : ℕ) (did : Did) → IsSteady k did → IsSteady k (does_rejected t o word did)
there-steady k t (Some q) word did steady = given-steady k t q (Event RejectedBadly) word did (inr refl) steady
there-steady k t None word did steady = given-steady k t Lcp (Event RejectedWell) word did (inr refl) steady

rejected-steady : (k : Automata) (t : LinkTables) (o : Option ℕ) (word : ℕ) (did : Did) → IsSteady k did → IsSteady k (rejected_if t o word did)
unfolding rejected_if
rejected-steady k t None word did steady = steady
rejected-steady k t (Some number) word did steady = there-steady k t (there did.automata (proto_of number)) word did steady

takes-steady : (k : Automata) (t : LinkTables) (q : Proto) (octets : List ℕ) (word : ℕ) (did : Did) → IsSteady k did → IsSteady k (takes t q octets word did)
unfolding takes
takes-steady k t q octets word did steady =
    rejected-steady k t (rejected_in (told_by t q (Octets octets) word did.automata)) word (does t q (Octets octets) word did) (given-steady k t q (Octets octets) word did (inr refl) steady)

other-steady : (k : Automata) (number : ℕ) (info : List ℕ) (did : Did) (b : Bool) → IsSteady k did →
    IsSteady k (if b then and_tells did (Payload number info) else rejects number info did)
unfolding rejects
other-steady k number info did true steady = record {
  opened = fold-append opened_after (is_opened k.lcp.state) did.out _ ∙ steady.opened;
  turn = turn-append (is_opened k.lcp.state) did.out _ steady.turn tt;
  keeps = λ was still. steady.keeps was (still-front did.out _ still);
  off = steady.off;
}
other-steady k number info did false steady = record {
  opened = fold-append opened_after (is_opened k.lcp.state) did.out _ ∙ steady.opened;
  turn = turn-append (is_opened k.lcp.state) did.out _ steady.turn tt;
  keeps = λ was still. steady.keeps was (still-front did.out _ still);
  off = λ p other. ap off_if (reject-auto p did.automata ((did.automata.reject_id + 1) % 256)) ∙ steady.off p other;
}

for-steady : (k : Automata) (t : LinkTables) (o : Option Proto) (number : ℕ) (info : List ℕ) (word : ℕ) (did : Did) → IsSteady k did → IsSteady k (hears_as t o number info word did)
unfolding hears_other
for-steady k t (Some q) number info word did steady = takes-steady k t q info word did steady
for-steady k t None number info word did steady = other-steady k number info did (is_payload t did.automata number) steady

if-steady : (k : Automata) (t : LinkTables) (o : Option Proto) (number : ℕ) (info : List ℕ) (word : ℕ) (did : Did) (b : Bool) → IsSteady k did →
    IsSteady k (if b then hears_as t o number info word did else did)
if-steady k t o number info word did true steady = for-steady k t o number info word did steady
if-steady k t o number info word did false steady = steady

read-steady : (k : Automata) (t : LinkTables) (o : Option Read) (word : ℕ) (did : Did) → IsSteady k did → IsSteady k (hears_read t o word did)
unfolding hears
read-steady k t None word did steady = steady
read-steady k t (Some read) word did steady =
    if-steady k t (there did.automata (proto_of read.protocol)) read.protocol read.info word did ((read.protocol == proto_number Lcp) || is_opened did.automata.lcp.state) steady

-- what a link's own step did
abbrev pub fed_did : Fed → Did
fed_did fed = record { automata = fed.link.automata; out = fed.out }

pub link-steady : (what : Happening) (k : Link) (word : ℕ) → IsSteady k.automata (fed_did (link_does what k word))
unfolding fed_with
link-steady LineUp k word = given-steady k.automata k.tables Lcp (Event Up) word (begins k.automata) (inl refl) (begins-steady k.automata)
link-steady LineDown k word = given-steady k.automata k.tables Lcp (Event Down) word (begins k.automata) (inl refl) (begins-steady k.automata)
link-steady (Opens q) k word = given-steady k.automata k.tables q (Event AdminOpen) word (begins k.automata) (inr refl) (begins-steady k.automata)
link-steady (Closes q) k word = given-steady k.automata k.tables q (Event AdminClose) word (begins k.automata) (inr refl) (begins-steady k.automata)
link-steady (TimesOut q) k word = given-steady k.automata k.tables q (Event Timeout) word (begins k.automata) (inr refl) (begins-steady k.automata)
link-steady (Takes octets) k word =
    read-steady k.automata k.tables (feed_step (read_by k.automata.lcp k.deframer) octets).left.frame word (begins k.automata) (begins-steady k.automata)
