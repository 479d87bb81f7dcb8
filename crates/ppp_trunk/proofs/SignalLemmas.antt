-- A step of a link has packets of a control protocol above LCP, or signals of LCP that something follows from, but not both.
use Rattle.std.proofs.Common.{◌≡◌, ◌≢◌, ℕ, Bool, true, false, if◌then◌else◌, List, [], ◌∷◌, ◌++◌, refl, sym, ap, ◌∙◌, inl, inr}
use Rattle.std.specs.Prelude.{◌⊎◌, ◌==◌, ◌||◌, Option, Some, None, map}
use Rattle.std.specs.List.{flat_map}
use Rattle.std.specs.Option.{option_to_list}
use Rattle.std.proofs.lemmas.Grind.{flat_map-append}
use Rattle.ppp_auto.specs.Auto.{Auto, is_opened}
use Rattle.ppp_auto.specs.Automaton.{acts_on, after, does_row, effects, entries_of, take_read, tells_rejected}
use Rattle.ppp_auto.specs.EventTable.{cell_of}
use Rattle.ppp_auto.specs.Outbox.{Effect, Sends, Entry as Told, Send, Signal, entry_of}
use Rattle.ppp_auto.specs.OptionTable.{Table}
use Rattle.ppp_auto.specs.Packet.{Packet, packet_of}
use Rattle.ppp_auto.specs.Taken.{Taken, kind}
use Rattle.ppp_auto.specs.declared.action.Action.{Action}
use Rattle.ppp_auto.specs.declared.action.Action.TheVariants.{ThisLayerUp, ThisLayerDown, ThisLayerStarted, ThisLayerFinished, InitializeRestartCount, ZeroRestartCount, SendConfigureRequest, RepeatConfigureRequest, SendConfigureAck, SendConfigureNak, SendTerminateRequest, SendTerminateAck, SendCodeReject, SendEchoReply}
use Rattle.ppp_auto.specs.declared.auto_event.AutoEvent.TheVariants.{Up, Down, AdminOpen, AdminClose, Timeout, RejectedWell, RejectedBadly}
use Rattle.ppp_auto.specs.declared.input.Input.{Input}
use Rattle.ppp_auto.specs.declared.layer_signal.LayerSignal.{LayerSignal}
use Rattle.ppp_auto.specs.declared.layer_signal.LayerSignal.TheVariants as signal
use Rattle.ppp_frame.specs.Deframer.{feed_step}
use Rattle.ppp_frame.specs.declared.form.Form.{Form}
use Rattle.ppp_frame.specs.Header.{Read}
use Rattle.ppp_packet.specs.Proto.{proto_number, proto_of}
use Rattle.ppp_packet.specs.declared.proto.Proto.{Proto}
use Rattle.ppp_packet.specs.declared.proto.Proto.TheVariants.{Lcp, Ip, Ipv6, Osi, Mpls, Bacp}
use Rattle.ppp_link.specs.Automata.{Automata, auto_at, form_for}
use Rattle.ppp_link.specs.Link.{Link, fed_with, read_by}
use Rattle.ppp_link.specs.LinkOut.{Entry, LcpUp, LcpDown, Payload}
use Rattle.ppp_link.specs.LinkTables.{LinkTables, table_of}
use Rattle.ppp_link.specs.Steps.{Given, Event, Packet as Octets, after as link_after, begins, does, does_rejected, hears, hears_as, hears_other, hears_read, is_payload, rejected_if, rejected_in, rejects, signal_told, takes, there, told_all, told_by, told_if, and_tells}
use Rattle.ppp_trunk.specs.Orders.{is_same, packets_in}
use Rattle.ppp_trunk.specs.Steps.{Happening, LineUp, LineDown, Opens, Closes, TimesOut, Takes, link_does}
use Rattle.ppp_trunk.proofs.OrdersLemmas.{AllShort, link_packets, only_if, packets-told, same-proto}

-- ---- only a Protocol-Reject tells of a rejected protocol, and nothing else

answer-tells : (o : Option Packet) (es : List Effect) → rejected_in (map entry_of ((map (λ packet. Sends packet) (option_to_list o)) ++ es)) ≡ rejected_in (map entry_of es)
answer-tells None es = refl
answer-tells (Some packet) es = refl

row-tells : (old new : Auto) (taken : Taken) (actions : List Action) → rejected_in (map entry_of (effects old new taken actions)) ≡ None
row-tells old new taken [] = refl
row-tells old new taken (ThisLayerUp ∷ actions) = row-tells old new taken actions
row-tells old new taken (ThisLayerDown ∷ actions) = row-tells old new taken actions
row-tells old new taken (ThisLayerStarted ∷ actions) = row-tells old new taken actions
row-tells old new taken (ThisLayerFinished ∷ actions) = row-tells old new taken actions
row-tells old new taken (InitializeRestartCount ∷ actions) = row-tells old new taken actions
row-tells old new taken (ZeroRestartCount ∷ actions) = row-tells old new taken actions
row-tells old new taken (SendConfigureRequest ∷ actions) = row-tells old new taken actions
row-tells old new taken (RepeatConfigureRequest ∷ actions) = row-tells old new taken actions
row-tells old new taken (SendConfigureAck ∷ actions) = answer-tells taken.answer (effects old new taken actions) ∙ row-tells old new taken actions
row-tells old new taken (SendConfigureNak ∷ actions) = answer-tells taken.answer (effects old new taken actions) ∙ row-tells old new taken actions
row-tells old new taken (SendTerminateRequest ∷ actions) = row-tells old new taken actions
row-tells old new taken (SendTerminateAck ∷ actions) = row-tells old new taken actions
row-tells old new taken (SendCodeReject ∷ actions) = row-tells old new taken actions
row-tells old new taken (SendEchoReply ∷ actions) = answer-tells taken.answer (effects old new taken actions) ∙ row-tells old new taken actions

rejected-alone : (form : Form) (q : Proto) (n : ℕ) → told_all form q (Signal (signal.ProtocolRejected n) ∷ []) ≡ []
rejected-alone form Lcp n = refl
rejected-alone form Ip n = refl
rejected-alone form Ipv6 n = refl
rejected-alone form Osi n = refl
rejected-alone form Mpls n = refl
rejected-alone form Bacp n = refl

none-tells : (form : Form) (q : Proto) (o : Option ℕ) → told_all form q (map entry_of (tells_rejected o)) ≡ []
none-tells form q None = refl
none-tells form q (Some n) = rejected-alone form q n

acts-tells : (form : Form) (q : Proto) (t : Table) (a : Auto) (taken : Taken) (o : Option Input) (word n : ℕ) →
    rejected_in (entries_of (acts_on t a taken o word)) ≡ Some n → told_all form q (entries_of (acts_on t a taken o word)) ≡ []
unfolding does_row
acts-tells form q t a taken None word n is = none-tells form q taken.rejects
acts-tells form q t a taken (Some input) word n is =
    let row = cell_of input a.state in
    let none = row-tells a (after t a input row taken word) taken row.actions in
    let never : None ≡ Some n = sym none ∙ is in
    absurd (cc)

read-tells : (form : Form) (q : Proto) (t : Table) (a : Auto) (o : Option Packet) (word n : ℕ) →
    rejected_in (entries_of (take_read t a o word)) ≡ Some n → told_all form q (entries_of (take_read t a o word)) ≡ []
read-tells form q t a None word n is = refl
read-tells form q t a (Some packet) word n is = let taken = kind t a packet word in acts-tells form q t a taken taken.input word n is

if-tells : (form : Form) (q : Proto) (t : Table) (o : Option Auto) (octets : List ℕ) (word n : ℕ) →
    rejected_in (told_if t o (Octets octets) word) ≡ Some n → told_all form q (told_if t o (Octets octets) word) ≡ []
if-tells form q t None octets word n is = refl
if-tells form q t (Some a) octets word n is = read-tells form q t a (packet_of octets) word n is

-- ---- packets or signals

-- whether LCP came to be Opened or left Opened, entry by entry that says so
abbrev pub signals_of : Entry → List Bool
signals_of LcpUp = true ∷ []
signals_of LcpDown = false ∷ []
signals_of entry = []

abbrev pub all_signals : List Entry → List Bool
all_signals es = flat_map signals_of es

-- the entries have no packet of the protocol, or no signal of LCP
abbrev pub IsParted : Proto → List Entry → Type 0
IsParted p es = (link_packets p es ≡ []) ⊎ (all_signals es ≡ [])

-- other protocols don't tell LCP's signals
signal-quiet : (q : Proto) (told : LayerSignal) → is_same Lcp q ≡ false → all_signals (signal_told q told) ≡ []
signal-quiet Lcp told e = absurd (cc)
signal-quiet Ip signal.Up e = refl
signal-quiet Ip signal.Down e = refl
signal-quiet Ip signal.Started e = refl
signal-quiet Ip signal.Finished e = refl
signal-quiet Ip (signal.ProtocolRejected n) e = refl
signal-quiet Ipv6 signal.Up e = refl
signal-quiet Ipv6 signal.Down e = refl
signal-quiet Ipv6 signal.Started e = refl
signal-quiet Ipv6 signal.Finished e = refl
signal-quiet Ipv6 (signal.ProtocolRejected n) e = refl
signal-quiet Osi signal.Up e = refl
signal-quiet Osi signal.Down e = refl
signal-quiet Osi signal.Started e = refl
signal-quiet Osi signal.Finished e = refl
signal-quiet Osi (signal.ProtocolRejected n) e = refl
signal-quiet Mpls signal.Up e = refl
signal-quiet Mpls signal.Down e = refl
signal-quiet Mpls signal.Started e = refl
signal-quiet Mpls signal.Finished e = refl
signal-quiet Mpls (signal.ProtocolRejected n) e = refl
signal-quiet Bacp signal.Up e = refl
signal-quiet Bacp signal.Down e = refl
signal-quiet Bacp signal.Started e = refl
signal-quiet Bacp signal.Finished e = refl
signal-quiet Bacp (signal.ProtocolRejected n) e = refl

pub told-quiet : (form : Form) (q : Proto) (es : List Told) → is_same Lcp q ≡ false → all_signals (told_all form q es) ≡ []
told-quiet form q [] e = refl
told-quiet form q (Send octets ∷ es) e = told-quiet form q es e
told-quiet form q (Signal told ∷ es) e =
    flat_map-append signals_of (signal_told q told) (told_all form q es)
    ∙ ap (λ xs. xs ++ all_signals (told_all form q es)) (signal-quiet q told e)
    ∙ told-quiet form q es e

not-lcp : (p : Proto) → p ≢ Lcp → is_same p Lcp ≡ false
not-lcp Lcp other = absurd (other refl)
not-lcp Ip other = refl
not-lcp Ipv6 other = refl
not-lcp Osi other = refl
not-lcp Mpls other = refl
not-lcp Bacp other = refl

lcp-packets : (form : Form) (p : Proto) (es : List Told) → p ≢ Lcp → AllShort (told_all form Lcp es) → link_packets p (told_all form Lcp es) ≡ []
lcp-packets form p es other short = packets-told form p Lcp es short ∙ ap (λ b. only_if b (packets_in es)) (not-lcp p other)

told-parted : (form : Form) (p q : Proto) (es : List Told) (lcp : Bool) → p ≢ Lcp → is_same Lcp q ≡ lcp → AllShort (told_all form q es) → IsParted p (told_all form q es)
told-parted form p q es false other l short = inr (told-quiet form q es l)
told-parted form p q es true other l short =
    let same = same-proto Lcp q l in
    inl (rw (sym same) (lcp-packets form p es other (rw same short)))

given-parted : (p : Proto) (t : LinkTables) (q : Proto) (given : Given) (word : ℕ) (k : Automata) → p ≢ Lcp → AllShort (does t q given word (begins k)).out → IsParted p (does t q given word (begins k)).out
unfolding does
given-parted p t q given word k other short = told-parted (form_for (link_after t q given word k).lcp q) p q (told_by t q given word k) (is_same Lcp q) other refl short

-- ---- a frame

-- behind nothing, as behind something
rejected-parted : (p : Proto) (t : LinkTables) (o : Option Proto) (word : ℕ) (k : Automata) → p ≢ Lcp → AllShort (does_rejected t o word (begins k)).out → IsParted p (does_rejected t o word (begins k)).out
rejected-parted p t (Some q) word k other short = given-parted p t q (Event RejectedBadly) word k other short
rejected-parted p t None word k other short = given-parted p t Lcp (Event RejectedWell) word k other short

takes-as : (p : Proto) (t : LinkTables) (q : Proto) (octets : List ℕ) (word : ℕ) (k : Automata) (o : Option ℕ) →
    rejected_in (told_by t q (Octets octets) word k) ≡ o →
    p ≢ Lcp → AllShort (rejected_if t o word (does t q (Octets octets) word (begins k))).out → IsParted p (rejected_if t o word (does t q (Octets octets) word (begins k))).out
unfolding rejected_if does
takes-as p t q octets word k None is other short = given-parted p t q (Octets octets) word k other short
takes-as p t q octets word k (Some n) is other short =
    let new = link_after t q (Octets octets) word k in
    let none : told_all (form_for new.lcp q) q (told_by t q (Octets octets) word k) ≡ [] = if-tells (form_for new.lcp q) q (table_of t q) (auto_at k q) octets word n is in
    rw none (rejected-parted p t (there new (proto_of n)) word new other (rw none at short))

takes-parted : (p : Proto) (t : LinkTables) (q : Proto) (octets : List ℕ) (word : ℕ) (k : Automata) → p ≢ Lcp → AllShort (takes t q octets word (begins k)).out → IsParted p (takes t q octets word (begins k)).out
unfolding takes
takes-parted p t q octets word k other short = takes-as p t q octets word k (rejected_in (told_by t q (Octets octets) word k)) refl other short

other-parted : (p : Proto) (t : LinkTables) (number : ℕ) (info : List ℕ) (k : Automata) (b : Bool) →
    all_signals (if b then and_tells (begins k) (Payload number info) else rejects number info (begins k)).out ≡ []
unfolding rejects
other-parted p t number info k true = refl
other-parted p t number info k false = refl

for-parted : (p : Proto) (t : LinkTables) (o : Option Proto) (number : ℕ) (info : List ℕ) (word : ℕ) (k : Automata) → p ≢ Lcp → AllShort (hears_as t o number info word (begins k)).out → IsParted p (hears_as t o number info word (begins k)).out
unfolding hears_other
for-parted p t (Some q) number info word k other short = takes-parted p t q info word k other short
for-parted p t None number info word k other short = inr (other-parted p t number info k (is_payload t k number))

if-parted : (p : Proto) (t : LinkTables) (o : Option Proto) (number : ℕ) (info : List ℕ) (word : ℕ) (k : Automata) (b : Bool) →
    p ≢ Lcp → AllShort (if b then hears_as t o number info word (begins k) else begins k).out → IsParted p (if b then hears_as t o number info word (begins k) else begins k).out
if-parted p t o number info word k true other short = for-parted p t o number info word k other short
if-parted p t o number info word k false other short = inl refl

read-parted : (p : Proto) (t : LinkTables) (o : Option Read) (word : ℕ) (k : Automata) → p ≢ Lcp → AllShort (hears_read t o word (begins k)).out → IsParted p (hears_read t o word (begins k)).out
unfolding hears
read-parted p t None word k other short = inl refl
read-parted p t (Some read) word k other short =
    if-parted p t (there k (proto_of read.protocol)) read.protocol read.info word k ((read.protocol == proto_number Lcp) || is_opened k.lcp.state) other short

pub link-parted : (p : Proto) (what : Happening) (k : Link) (word : ℕ) → p ≢ Lcp → AllShort (link_does what k word).out → IsParted p (link_does what k word).out
unfolding fed_with
link-parted p LineUp k word other short = given-parted p k.tables Lcp (Event Up) word k.automata other short
link-parted p LineDown k word other short = given-parted p k.tables Lcp (Event Down) word k.automata other short
link-parted p (Opens q) k word other short = given-parted p k.tables q (Event AdminOpen) word k.automata other short
link-parted p (Closes q) k word other short = given-parted p k.tables q (Event AdminClose) word k.automata other short
link-parted p (TimesOut q) k word other short = given-parted p k.tables q (Event Timeout) word k.automata other short
link-parted p (Takes octets) k word other short =
    read-parted p k.tables (feed_step (read_by k.automata.lcp k.deframer) octets).left.frame word k.automata other short
