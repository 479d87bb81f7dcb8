-- What an end notes of the packets that its automaton sends is what the two ends' machine counts.
use Rattle.std.proofs.Common.{◌≡◌, ℕ, ◌+◌, ◌%◌, Bool, true, false, List, [], ◌∷◌, ◌++◌, map, refl, sym, ◌∙◌, ap, arith}
use Rattle.std.specs.Prelude.{Option, Some, None, ◌==◌, ◌&&◌, not, if◌then◌else◌, ⊤, nat_le}
use Rattle.std.specs.List.{flat_map}
use Rattle.std.specs.Option.{option_map, option_and_then}
use Rattle.std.proofs.lemmas.List.{append-nil}
use Rattle.std.proofs.lemmas.Bool.Decides.{nat_tests}
use Rattle.ppp_packet.specs.ConfigOption.{ConfigOption}
use Rattle.ppp_packet.specs.Packet.{packet_octets, raw_packet_of}
use Rattle.ppp_packet.specs.Options.{written}
use Rattle.ppp_packet.proofs.OptionLemmas.{options_of-written}
use Rattle.ppp_packet.proofs.PacketLemmas.{raw_packet_of-packet_octets}
use Rattle.ppp_auto.specs.declared.auto_event.AutoEvent.{AutoEvent}
use Rattle.ppp_auto.specs.declared.auto_state.AutoState.{AutoState}
use Rattle.ppp_auto.specs.declared.input.Input.{Input}
use Rattle.ppp_auto.specs.declared.input.Input.TheVariants as on
use Rattle.ppp_auto.specs.declared.action.Action.{Action}
use Rattle.ppp_auto.specs.declared.action.Action.TheVariants.{ThisLayerUp, ThisLayerDown, ThisLayerStarted, ThisLayerFinished, InitializeRestartCount, ZeroRestartCount, SendConfigureRequest, RepeatConfigureRequest, SendConfigureAck, SendConfigureNak, SendTerminateRequest, SendTerminateAck, SendCodeReject, SendEchoReply}
use Rattle.ppp_auto.specs.Auto.{Auto, last_id}
use Rattle.ppp_auto.specs.Automaton.{Acted, acts_on, command, take_in, entries_of, does_row, effects, answering, after, tells_rejected}
use Rattle.ppp_auto.specs.Taken.{Taken, taken_as, request_taken, nak_taken, input_of, kind, judging}
use Rattle.ppp_auto.specs.Outbox.{Effect, Sends, Tells, entry_of}
use Rattle.ppp_auto.specs.EventTable.{cell_of, asks, acks}
use Rattle.ppp_auto.specs.OptionTable.{Table}
use Rattle.ppp_auto.specs.Packet.{Packet, Request, Ack, Nak, Reject, Other, packet_of, packet_with, octets_of}
use Rattle.ppp_auto.specs.Reply.{reply_with}
use Rattle.ppp_duet.specs.Duet.{Did, Marked, Setup, marked, does, does_if, takes, got_after}
use Rattle.ppp_auto.specs.Auto.{is_off}
use Rattle.ppp_trunk.specs.Orders.{packets_in}
use Rattle.ppp_party.specs.Ledger.{Ledger, first_id, last_of, noted_all, stamped, heard, is_asking, IsLedgerOf, end_of}

-- the packets among effects
abbrev pub packets_of : List Effect → List Packet
packets_of [] = []
packets_of (Sends packet ∷ es) = packet ∷ packets_of es
packets_of (Tells told ∷ es) = packets_of es

-- which answer an input has
abbrev pub Fits : Input → Option Packet → Type 0
Fits on.ReceiveConfigureRequestGood (Some (Ack id options)) = ⊤
Fits on.ReceiveConfigureRequestBad (Some (Nak id options)) = ⊤
Fits on.ReceiveConfigureRequestBad (Some (Reject id options)) = ⊤
Fits on.ReceiveEcho None = ⊤
Fits on.ReceiveEcho (Some (Other code id octets)) = code ≡ 10
Fits on.Up None = ⊤
Fits on.Down None = ⊤
Fits on.Open None = ⊤
Fits on.Close None = ⊤
Fits on.TimeoutAboveZero None = ⊤
Fits on.TimeoutExpired None = ⊤
Fits on.ReceiveConfigureAck None = ⊤
Fits on.ReceiveConfigureNak None = ⊤
Fits on.ReceiveTerminateRequest None = ⊤
Fits on.ReceiveTerminateAck None = ⊤
Fits on.ReceiveUnknownCode None = ⊤
Fits on.ReceiveRejectPermitted None = ⊤
Fits on.ReceiveRejectCatastrophic None = ⊤
Fits input answer = ⊥

-- the Identifier of a row's request is the last one's, exactly where the row doesn't ask anew
repeats : (asks : Bool) (next n : ℕ) → next % 256 ≡ (first_id + n) % 256 →
    ((((if asks then (next + 1) % 256 else next) + 255) % 256) == last_of n) ≡ not asks
repeats true next n ids = grind (arith, nat_tests)
repeats false next n ids = grind (arith, nat_tests)

ids_after : (asks : Bool) (next n : ℕ) → next % 256 ≡ (first_id + n) % 256 →
    (if asks then (next + 1) % 256 else next) % 256 ≡ (first_id + (if asks then n + 1 else n)) % 256
ids_after true next n ids = omega arith
ids_after false next n ids = ids

-- what is noted of a row
abbrev pub ledger_after : Ledger → List ConfigOption → Bool → Bool → Ledger
ledger_after g own asks acks = record {
  n = if asks then g.n + 1 else g.n;
  last = if asks then own else g.last;
  got = g.got;
  against = if acks then (if asks then own else g.last) else g.against;
}

noted_in_row : (i : Input) (s : AutoState) (g : Ledger) (old new : Auto) (taken : Taken) → Fits i taken.answer →
    (last_id new == last_of g.n) ≡ not (asks (cell_of i s).actions) →
    noted_all g (packets_of (effects old new taken (cell_of i s).actions)) ≡ ledger_after g new.own (asks (cell_of i s).actions) (acks (cell_of i s).actions)
noted_in_row i s g old new taken fits again = grind arith

stamped_in_row : (i : Input) (s : AutoState) (g : Ledger) (mark : ℕ) (old new : Auto) (taken : Taken) → Fits i taken.answer →
    (last_id new == last_of g.n) ≡ not (asks (cell_of i s).actions) →
    stamped g mark (packets_of (effects old new taken (cell_of i s).actions)) ≡ marked (if asks (cell_of i s).actions then g.n + 1 else g.n) mark (effects old new taken (cell_of i s).actions)
stamped_in_row i s g mark old new taken fits again = grind arith

-- Where a Configure-Ack is sent, the request was judged against the list of the last request that was sent by then.
judged_in_row : (i : Input) (t : Table) (a : Auto) (taken : Taken) (word : ℕ) (last : List ConfigOption) → (i ≡ on.ReceiveConfigureRequestGood → taken.adapted ≡ a.own) →
    (is_asking a.state ≡ true → last ≡ a.own) → acks (cell_of i a.state).actions ≡ true →
    judging t a word ≡ (if asks (cell_of i a.state).actions then (after t a i (cell_of i a.state) taken word).own else last)
judged_in_row i t a taken word last kept asking acked = grind (arith, kept, asking)

-- a row that leads to a state in which a request is under way asks, or begins in one
asking_before : (i : Input) (s : AutoState) → is_asking (cell_of i s).next ≡ true → asks (cell_of i s).actions ≡ false → is_asking s ≡ true
asking_before i s now asked = grind arith

-- packets that no reader takes for others
abbrev pub IsProper : Packet → Type 0
IsProper (Request id options) = ⊤
IsProper (Ack id options) = ⊤
IsProper (Nak id options) = ⊤
IsProper (Reject id options) = ⊤
IsProper (Other code id octets) = (nat_le 1 code && nat_le code 4) ≡ false

abbrev pub AllProper : List Packet → Type 0
AllProper [] = ⊤
AllProper (p ∷ ps) = IsProper p × AllProper ps

abbrev pub IsProperAnswer : Option Packet → Type 0
IsProperAnswer None = ⊤
IsProperAnswer (Some p) = IsProper p

proper_answer : (i : Input) (answer : Option Packet) → Fits i answer → IsProperAnswer answer
proper_answer i answer fits = grind arith

AllProper-answering : (answer : Option Packet) (es : List Effect) → IsProperAnswer answer → AllProper (packets_of es) → AllProper (packets_of (answering answer ++ es))
AllProper-answering None es first rest = rest
AllProper-answering (Some p) es first rest = (first, rest)

proper_in_row : (old new : Auto) (taken : Taken) (actions : List Action) → IsProperAnswer taken.answer → AllProper (packets_of (effects old new taken actions))
proper_in_row old new taken [] fits = tt
proper_in_row old new taken (ThisLayerUp ∷ more) fits = proper_in_row old new taken more fits
proper_in_row old new taken (ThisLayerDown ∷ more) fits = proper_in_row old new taken more fits
proper_in_row old new taken (ThisLayerStarted ∷ more) fits = proper_in_row old new taken more fits
proper_in_row old new taken (ThisLayerFinished ∷ more) fits = proper_in_row old new taken more fits
proper_in_row old new taken (InitializeRestartCount ∷ more) fits = proper_in_row old new taken more fits
proper_in_row old new taken (ZeroRestartCount ∷ more) fits = proper_in_row old new taken more fits
proper_in_row old new taken (SendConfigureRequest ∷ more) fits = (tt, proper_in_row old new taken more fits)
proper_in_row old new taken (RepeatConfigureRequest ∷ more) fits = (tt, proper_in_row old new taken more fits)
proper_in_row old new taken (SendConfigureAck ∷ more) fits = AllProper-answering taken.answer (effects old new taken more) fits (proper_in_row old new taken more fits)
proper_in_row old new taken (SendConfigureNak ∷ more) fits = AllProper-answering taken.answer (effects old new taken more) fits (proper_in_row old new taken more fits)
proper_in_row old new taken (SendTerminateRequest ∷ more) fits = (refl, proper_in_row old new taken more fits)
proper_in_row old new taken (SendTerminateAck ∷ more) fits = (refl, proper_in_row old new taken more fits)
proper_in_row old new taken (SendCodeReject ∷ more) fits = (refl, proper_in_row old new taken more fits)
proper_in_row old new taken (SendEchoReply ∷ more) fits = AllProper-answering taken.answer (effects old new taken more) fits (proper_in_row old new taken more fits)

-- what is written of a packet reads back
raw_again : (code id : ℕ) (rest : List ℕ) → raw_packet_of (packet_octets code id rest) ≡ Some (record { code = code; id = id; rest = rest })
raw_again code id rest = ap raw_packet_of (sym (append-nil (packet_octets code id rest))) ∙ raw_packet_of-packet_octets code id rest []

read_again : (code id : ℕ) (rest : List ℕ) → packet_of (packet_octets code id rest) ≡ packet_with (record { code = code; id = id; rest = rest })
read_again code id rest = ap (option_and_then packet_with) (raw_again code id rest)

other_again : (code id : ℕ) (octets : List ℕ) → (nat_le 1 code && nat_le code 4) ≡ false → packet_with (record { code = code; id = id; rest = octets }) ≡ Some (Other code id octets)
other_again code id octets proper = grind (arith, nat_tests)

pub packet_of-octets_of : (p : Packet) → IsProper p → packet_of (octets_of p) ≡ Some p
packet_of-octets_of (Request id options) proper = read_again 1 id (written options) ∙ ap (option_map (λ os. Request id os)) (options_of-written options)
packet_of-octets_of (Ack id options) proper = read_again 2 id (written options) ∙ ap (option_map (λ os. Ack id os)) (options_of-written options)
packet_of-octets_of (Nak id options) proper = read_again 3 id (written options) ∙ ap (option_map (λ os. Nak id os)) (options_of-written options)
packet_of-octets_of (Reject id options) proper = read_again 4 id (written options) ∙ ap (option_map (λ os. Reject id os)) (options_of-written options)
packet_of-octets_of (Other code id octets) proper = read_again code id octets ∙ other_again code id octets proper

-- the packets that octets are
abbrev pub read_one : Option Packet → List Packet
read_one None = []
read_one (Some packet) = packet ∷ []

abbrev pub read_all : List (List ℕ) → List Packet
read_all packets = flat_map (λ octets. read_one (packet_of octets)) packets

-- the packets of what an automaton did
abbrev pub sent_in : Acted → List Packet
sent_in acted = read_all (packets_in (entries_of acted))

pub read_all-entries : (es : List Effect) → AllProper (packets_of es) → read_all (packets_in (map entry_of es)) ≡ packets_of es
read_all-entries [] proper = refl
read_all-entries (Sends p ∷ es) proper = rw (packet_of-octets_of p proper.0, read_all-entries es proper.1) refl
read_all-entries (Tells told ∷ es) proper = read_all-entries es proper

-- what a packet is, it is answered accordingly, and a good request keeps the own list
pub record IsFit (a : Auto) (input : Input) (taken : Taken) : Type 0 where
  pub fits : Fits input taken.answer
  pub kept : input ≡ on.ReceiveConfigureRequestGood → taken.adapted ≡ a.own

abbrev pub FitsIfAny : Auto → Option Input → Taken → Type 0
FitsIfAny a None taken = ⊤
FitsIfAny a (Some input) taken = IsFit a input taken

pub fit_command : (a : Auto) (e : AutoEvent) → IsFit a (input_of a e) (taken_as a (Some (input_of a e)) 0)
fit_command a e = record { fits = grind arith; kept = λ same. refl }

-- the lists of a reply, whatever they are
reply_fits : (a : Auto) (naks id : ℕ) (theirs refused better missing bad : List ConfigOption) →
    let reply = reply_with naks id theirs refused better missing bad in
    IsFit a reply.input (request_taken a id theirs reply)
reply_fits a naks id theirs [] [] [] bad = record { fits = tt; kept = λ same. refl }
reply_fits a naks id theirs [] [] (o ∷ missing) bad = record { fits = tt; kept = λ same. refl }
reply_fits a naks id theirs [] (o ∷ better) missing bad = record { fits = grind arith; kept = λ same. refl }
reply_fits a naks id theirs (o ∷ refused) better missing bad = record { fits = tt; kept = λ same. refl }

ack_fits : (a : Auto) (id : ℕ) (counts : Bool) → let taken = taken_as a (if counts then Some on.ReceiveConfigureAck else None) id in FitsIfAny a taken.input taken
ack_fits a id true = record { fits = tt; kept = λ same. refl }
ack_fits a id false = tt

nak_fits : (a : Auto) (id : ℕ) (counts : Bool) (adapted : List ConfigOption) → let taken = nak_taken a counts id adapted in FitsIfAny a taken.input taken
nak_fits a id true adapted = record { fits = tt; kept = λ same. absurd (cc) }
nak_fits a id false adapted = tt

other_fits : (t : Table) (a : Auto) (code id : ℕ) (octets : List ℕ) (word : ℕ) →
    let taken = kind t a (Other code id octets) word in FitsIfAny a taken.input taken
other_fits t a code id octets word = grind (arith, nat_tests)

kind_fits : (t : Table) (a : Auto) (p : Packet) (word : ℕ) → let taken = kind t a p word in FitsIfAny a taken.input taken
kind_fits t a (Request id theirs) word = reply_fits a a.naks id theirs _ _ _ _
kind_fits t a (Ack id options) word = ack_fits a id _
kind_fits t a (Nak id options) word = nak_fits a id _ _
kind_fits t a (Reject id options) word = nak_fits a id _ _
kind_fits t a (Other code id octets) word = other_fits t a code id octets word

-- a choice whose two sides are told apart by a test
chosen : {X : Type 0} (b : Bool) (one other else' : X) → (b ≡ true → one ≡ other) → (if b then one else else') ≡ (if b then other else else')
chosen true one other else' same = same refl
chosen false one other else' same = refl

-- an end that did that, with what it sent in answer to a packet of that mark
abbrev pub posted : Ledger → ℕ → Acted → Did
posted g mark acted = let ps = sent_in acted in record { end = end_of acted.auto (noted_all g ps); sent = stamped g mark ps }

does_posted : (s : Setup) (a : Auto) (g : Ledger) (input : Input) (taken : Taken) (mark word : ℕ) → IsLedgerOf a g → IsFit a input taken →
    does s (end_of a g) input taken mark word ≡ posted g mark (does_row s.table a input taken word)
unfolding does does_row
does_posted s a g input taken mark word kept fit =
    let new = after s.table a input (cell_of input a.state) taken word in
    let actions = (cell_of input a.state).actions in
    let es = effects a new taken actions in
    let again = repeats (asks actions) a.next_id g.n kept.ids in
    let judged = chosen (acks actions) (judging s.table a word) (if asks actions then new.own else g.last) g.against (judged_in_row input s.table a taken word g.last fit.kept kept.last) in
    rw (read_all-entries es (proper_in_row a new taken actions (proper_answer input taken.answer fit.fits)), noted_in_row input a.state g a new taken fit.fits again, stamped_in_row input a.state g mark a new taken fit.fits again, judged) refl

own_after : (asks : Bool) (own new last : List ConfigOption) → (asks ≡ false → last ≡ own) →
    let now = (if asks then new else own) in (if asks then now else last) ≡ now
own_after true own new last same = refl
own_after false own new last same = same refl

does_kept : (t : Table) (a : Auto) (g : Ledger) (input : Input) (taken : Taken) (word : ℕ) → IsLedgerOf a g → IsFit a input taken →
    let acted = does_row t a input taken word in IsLedgerOf acted.auto (noted_all g (sent_in acted))
unfolding does_row
does_kept t a g input taken word kept fit =
    let new = after t a input (cell_of input a.state) taken word in
    let actions = (cell_of input a.state).actions in
    let es = effects a new taken actions in
    let again = repeats (asks actions) a.next_id g.n kept.ids in
    rw (read_all-entries es (proper_in_row a new taken actions (proper_answer input taken.answer fit.fits)), noted_in_row input a.state g a new taken fit.fits again) record {
      ids = ids_after (asks actions) a.next_id g.n kept.ids;
      last = λ asking. own_after (asks actions) a.own _ g.last (λ none. kept.last (asking_before input a.state asking none));
    }

-- where a packet may be none of the table's events
if_posted : (s : Setup) (a : Auto) (g : Ledger) (input : Option Input) (taken : Taken) (mark word : ℕ) → IsLedgerOf a g → FitsIfAny a input taken →
    does_if s (end_of a g) input taken mark word ≡ posted g mark (acts_on s.table a taken input word)
if_posted s a g None taken mark word kept fit = grind arith
if_posted s a g (Some input) taken mark word kept fit = does_posted s a g input taken mark word kept fit

if_kept : (t : Table) (a : Auto) (g : Ledger) (input : Option Input) (taken : Taken) (word : ℕ) → IsLedgerOf a g → FitsIfAny a input taken →
    let acted = acts_on t a taken input word in IsLedgerOf acted.auto (noted_all g (sent_in acted))
if_kept t a g None taken word kept fit = told taken.rejects
  where
    told : (rejects : Option ℕ) → IsLedgerOf a (noted_all g (read_all (packets_in (map entry_of (tells_rejected rejects)))))
    told None = kept
    told (Some protocol) = kept
if_kept t a g (Some input) taken word kept fit = does_kept t a g input taken word kept fit

-- what is heard of a packet changes nothing that fits the automaton
heard_kept : (a : Auto) (g : Ledger) (mark : ℕ) (p : Packet) → IsLedgerOf a g → IsLedgerOf a (heard g a.state mark p)
heard_kept a g mark (Request id options) kept = by_state (is_off a.state)
  where
    by_state : (off : Bool) → IsLedgerOf a (if off then g else record g { got = mark })
    by_state true = kept
    by_state false = record { ids = kept.ids; last = kept.last }
heard_kept a g mark (Ack id options) kept = kept
heard_kept a g mark (Nak id options) kept = kept
heard_kept a g mark (Reject id options) kept = kept
heard_kept a g mark (Other code id octets) kept = kept

heard_seen : (a : Auto) (g : Ledger) (mark : ℕ) (p : Packet) → record (end_of a g) { got = got_after (end_of a g) mark p } ≡ end_of a (heard g a.state mark p)
heard_seen a g mark (Request id options) = grind arith
heard_seen a g mark (Ack id options) = refl
heard_seen a g mark (Nak id options) = refl
heard_seen a g mark (Reject id options) = refl
heard_seen a g mark (Other code id octets) = refl

-- ---- an event without a packet, and a packet taken in

pub commanded_seen : (s : Setup) (a : Auto) (g : Ledger) (event : AutoEvent) (word : ℕ) → IsLedgerOf a g →
    let input = input_of a event in does s (end_of a g) input (taken_as a (Some input) 0) 0 word ≡ posted g 0 (command s.table a event word)
commanded_seen s a g event word kept = does_posted s a g (input_of a event) _ 0 word kept (fit_command a event)

pub proper_command : (t : Table) (a : Auto) (event : AutoEvent) (word : ℕ) →
    let input = input_of a event in
    let taken = taken_as a (Some input) 0 in
    let row = cell_of input a.state in
    sent_in (command t a event word) ≡ packets_of (effects a (after t a input row taken word) taken row.actions)
unfolding does_row
proper_command t a event word =
    let input = input_of a event in
    let taken = taken_as a (Some input) 0 in
    let row = cell_of input a.state in
    let new = after t a input row taken word in
    read_all-entries (effects a new taken row.actions) (proper_in_row a new taken row.actions tt)

pub commanded_kept : (t : Table) (a : Auto) (g : Ledger) (event : AutoEvent) (word : ℕ) → IsLedgerOf a g →
    let acted = command t a event word in IsLedgerOf acted.auto (noted_all g (sent_in acted))
commanded_kept t a g event word kept = does_kept t a g (input_of a event) _ word kept (fit_command a event)

pub taken_seen : (s : Setup) (a : Auto) (g : Ledger) (m : Marked) (word : ℕ) → IsLedgerOf a g →
    takes s (end_of a g) m word ≡ posted (heard g a.state m.mark m.packet) m.mark (take_in s.table a m.packet word)
unfolding takes
taken_seen s a g m word kept =
    let taken = kind s.table a m.packet word in
    rw heard_seen (if_posted s a (heard g a.state m.mark m.packet) taken.input taken m.mark word (heard_kept a g m.mark m.packet kept) (kind_fits s.table a m.packet word))

pub taken_kept : (t : Table) (a : Auto) (g : Ledger) (m : Marked) (word : ℕ) → IsLedgerOf a g →
    let acted = take_in t a m.packet word in IsLedgerOf acted.auto (noted_all (heard g a.state m.mark m.packet) (sent_in acted))
taken_kept t a g m word kept =
    let taken = kind t a m.packet word in
    if_kept t a (heard g a.state m.mark m.packet) taken.input taken word (heard_kept a g m.mark m.packet kept) (kind_fits t a m.packet word)
