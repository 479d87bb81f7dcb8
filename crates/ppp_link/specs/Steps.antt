-- What a link does, step by step (RFC 1661 section 3).
use Rattle.std.specs.Prelude.{ℕ, ◌+◌, ◌-◌, ◌%◌, Bool, ◌&&◌, ◌||◌, ◌==◌, not, if◌then◌else◌, List, [], ◌∷◌, ◌++◌, take, Option, Some, None, is_some}
use Rattle.std.specs.List.{flat_map}
use Rattle.ppp_packet.specs.Code.{code_number}
use Rattle.ppp_packet.specs.declared.code.Code.TheVariants.{ProtocolReject}
use Rattle.ppp_packet.specs.Packet.{packet_octets, two_octets}
use Rattle.ppp_packet.specs.Proto.{proto_of, proto_number}
use Rattle.ppp_packet.specs.declared.proto.Proto.{Proto}
use Rattle.ppp_packet.specs.declared.proto.Proto.TheVariants.{Lcp, Bacp}
use Rattle.ppp_auto.specs.Auto.{Auto, is_opened}
use Rattle.ppp_auto.specs.Automaton.{Acted, command, take_octets, entries_of}
use Rattle.ppp_auto.specs.OptionTable.{Table}
use Rattle.ppp_auto.specs.Outbox.{Entry as Told, Send, Signal}
use Rattle.ppp_auto.specs.declared.auto_event.AutoEvent.{AutoEvent}
use Rattle.ppp_auto.specs.declared.auto_event.AutoEvent.TheVariants.{Up, Down, RejectedWell, RejectedBadly}
use Rattle.ppp_auto.specs.declared.layer_signal.LayerSignal.{LayerSignal}
use Rattle.ppp_auto.specs.declared.layer_signal.LayerSignal.TheVariants as signal
use Rattle.ppp_frame.specs.declared.form.Form.{Form}
use Rattle.ppp_frame.specs.Frame.{enc}
use Rattle.ppp_frame.specs.Header.{Read}
use Rattle.ppp_link.specs.Automata.{Automata, auto_at, all_changed, cap_of, changed, form_for, is_there, whole_form, with_cap}
use Rattle.ppp_link.specs.LinkOut.{Entry, Push, LcpUp, LcpDown, Finished, NetUp, NetDown, Payload}
use Rattle.ppp_link.specs.LinkTables.{LinkTables, table_of}
use Rattle.ppp_link.specs.Proto.{control_of, nets}
use Rattle.ppp_link.specs.declared.given.Given.{Given as Kept}
use Rattle.ppp_link.specs.declared.given.Given.TheVariants as kept

-- ---- one automaton

-- what happens to an automaton: an event without a packet, or octets that come for it
pub data Given : Type 0 where
  Event : (event : AutoEvent) → Given
  Packet : (octets : List ℕ) → Given

abbrev pub given_seen : Kept → Given
given_seen (kept.Event event) = Event event
given_seen (kept.Packet octets) = Packet octets.now

abbrev pub acted : Table → Given → ℕ → Auto → Acted
acted t (Event event) word a = command t a event word
acted t (Packet octets) word a = take_octets t a octets word

abbrev pub auto_given : Table → Given → ℕ → Auto → Auto
auto_given t given word a = (acted t given word a).auto

-- what it sends and tells: nothing where the protocol isn't configured
abbrev pub told_if : Table → Option Auto → Given → ℕ → List Told
told_if t None given word = []
told_if t (Some a) given word = entries_of (acted t given word a)

-- ---- entries

abbrev pub lcp_told : LayerSignal → List Entry
lcp_told signal.Up = LcpUp ∷ []
lcp_told signal.Down = LcpDown ∷ []
lcp_told signal.Finished = Finished ∷ []
lcp_told told = []

abbrev pub net_told : Proto → LayerSignal → List Entry
net_told p signal.Up = NetUp p ∷ []
net_told p signal.Down = NetDown p ∷ []
net_told p told = []

abbrev pub signal_told : Proto → LayerSignal → List Entry
signal_told Lcp told = lcp_told told
signal_told p told = net_told p told

-- the entry of what an automaton sends or tells: its packets go in frames of that form
abbrev pub told_one : Form → Proto → Told → List Entry
told_one form p (Send octets) = Push (enc form (proto_number p) octets) ∷ []
told_one form p (Signal told) = signal_told p told

abbrev pub told_all : Form → Proto → List Told → List Entry
told_all form p es = flat_map (told_one form p) es

-- ---- steps

-- what was done so far: the automata as they are now, and the entries that were made, in order
pub record Did : Type 0 where
  pub automata : Automata
  pub out : List Entry

-- nothing so far
abbrev pub begins : Automata → Did
begins k = record { automata = k; out = [] }

-- one entry more
abbrev pub and_tells : Did → Entry → Did
and_tells did entry = record did { out = did.out ++ entry ∷ [] }

-- After a row of LCP all caps are set, before its signals are worked off.
abbrev pub capped : Automata → Automata
capped k = all_changed k (with_cap (cap_of k.lcp))

abbrev pub settled_after : Proto → Automata → Automata
settled_after Lcp k = capped k
settled_after p k = k

-- the automata after something happened to one of them
abbrev pub after : LinkTables → Proto → Given → ℕ → Automata → Automata
after t p given word k = settled_after p (changed k p (auto_given (table_of t p) given word))

-- what the automaton of a protocol sends and tells, where it is configured
abbrev pub told_by : LinkTables → Proto → Given → ℕ → Automata → List Told
told_by t p given word k = told_if (table_of t p) (auto_at k p) given word

-- something happens to the automaton of a protocol
unfoldable pub does : LinkTables → Proto → Given → ℕ → Did → Did
does t p given word did =
    let new = after t p given word did.automata in
    record { automata = new; out = did.out ++ told_all (form_for new.lcp p) p (told_by t p given word did.automata) }

-- an event happens to the automata of several protocols in turn
unfoldable pub each_does : LinkTables → List Proto → AutoEvent → ℕ → Did → Did
each_does t [] event word did = did
each_does t (p ∷ ps) event word did = each_does t ps event word (does t p (Event event) word did)

-- Control protocols other than LCP go Up or Down: those of the network, and BACP where that is asked for.
abbrev pub runs : Bool → List Proto
runs bacp = nets ++ (if bacp then Bacp ∷ [] else [])

abbrev pub run_by : Bool → AutoEvent
run_by on = if on then Up else Down

-- ---- protocols that are rejected

-- the protocol that a Protocol-Reject among the entries names
abbrev pub rejected_in : List Told → Option ℕ
rejected_in [] = None
rejected_in (Signal (signal.ProtocolRejected number) ∷ es) = Some number
rejected_in (e ∷ es) = rejected_in es

-- a protocol that is configured
abbrev pub there : Automata → Option Proto → Option Proto
there k None = None
there k (Some p) = if is_there k p then Some p else None

-- A Protocol-Reject of a configured control protocol ends that one; one of another protocol is borne (RFC 1661 section
-- 5.7).
abbrev pub does_rejected : LinkTables → Option Proto → ℕ → Did → Did
does_rejected t (Some p) word did = does t p (Event RejectedBadly) word did
does_rejected t None word did = does t Lcp (Event RejectedWell) word did

unfoldable pub rejected_if : LinkTables → Option ℕ → ℕ → Did → Did
rejected_if t None word did = did
rejected_if t (Some number) word did = does_rejected t (there did.automata (proto_of number)) word did

-- octets come for the automaton of a protocol
unfoldable pub takes : LinkTables → Proto → List ℕ → ℕ → Did → Did
takes t p octets word did =
    rejected_if t (rejected_in (told_by t p (Packet octets) word did.automata)) word (does t p (Packet octets) word did)

-- A Protocol-Reject that is sent has the next Identifier of its own, and as much of the information as the cap leaves
-- room for (RFC 1661 section 5.7).
abbrev pub reject_packet : ℕ → ℕ → ℕ → List ℕ → List ℕ
reject_packet id cap number info =
    packet_octets (code_number ProtocolReject) id (two_octets number ++ take (cap - 6) info)

unfoldable pub rejects : ℕ → List ℕ → Did → Did
rejects number info did = record {
  automata = record did.automata { reject_id = (did.automata.reject_id + 1) % 256 };
  out = did.out ++ Push (enc whole_form (proto_number Lcp) (reject_packet did.automata.reject_id (cap_of did.automata.lcp) number info)) ∷ [];
}

-- ---- frames

-- whether a frame of that protocol is one of BAP, which is known where BACP is configured (RFC 2125)
abbrev pub is_bap : Automata → ℕ → Bool
is_bap k number = (number == 0xc02d) && is_there k Bacp

-- whether what a frame of that protocol carries is handed up: data of a configured control protocol, fragments where this
-- end does multilink, or a packet of BAP
abbrev pub is_payload : LinkTables → Automata → ℕ → Bool
is_payload t k number =
    is_some (there k (control_of number)) || ((number == 0x003d) && not (t.lcp.mrru == 0)) || is_bap k number

unfoldable pub hears_other : LinkTables → ℕ → List ℕ → Did → Did
hears_other t number info did =
    if is_payload t did.automata number then and_tells did (Payload number info) else rejects number info did

abbrev pub hears_as : LinkTables → Option Proto → ℕ → List ℕ → ℕ → Did → Did
hears_as t (Some p) number info word did = takes t p info word did
hears_as t None number info word did = hears_other t number info did

-- A frame is taken: one of LCP always, any other while LCP is Opened. What no configured protocol has is rejected.
unfoldable pub hears : LinkTables → ℕ → List ℕ → ℕ → Did → Did
hears t number info word did =
    if (number == proto_number Lcp) || is_opened did.automata.lcp.state
    then hears_as t (there did.automata (proto_of number)) number info word did
    else did

-- What isn't taken inside multilink (RFC 1990 section 2 has none of LCP's negotiation there; this project no LCP at all, no
-- multilink and no BAP).
abbrev pub is_outside : Automata → ℕ → Bool
is_outside k number = (number == proto_number Lcp) || (number == 0x003d) || is_bap k number

-- a packet is taken that came inside multilink, while LCP is Opened
unfoldable pub hears_inner : LinkTables → ℕ → List ℕ → ℕ → Did → Did
hears_inner t number info word did =
    if is_outside did.automata number || not (is_opened did.automata.lcp.state)
    then did
    else hears_as t (there did.automata (proto_of number)) number info word did

abbrev pub hears_read : LinkTables → Option Read → ℕ → Did → Did
hears_read t None word did = did
hears_read t (Some read) word did = hears t read.protocol read.info word did

-- the automata of the code and its list, as what was done so far
abbrev pub so_far : Automata → List Entry → Did
so_far k out = record { automata = k; out = out }
