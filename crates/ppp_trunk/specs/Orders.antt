-- What a step of a link is to the automaton of one of its protocols: orders, in the words of the laws on two ends.
use Rattle.std.specs.Prelude.{ℕ, Bool, true, ◌==◌, ◌||◌, if◌then◌else◌, List, [], ◌∷◌, ◌++◌, Option, Some, None, option_map}
use Rattle.std.specs.List.{flat_map}
use Rattle.ppp_packet.specs.Proto.{proto_number, proto_of}
use Rattle.ppp_packet.specs.declared.proto.Proto.{Proto}
use Rattle.ppp_packet.specs.declared.proto.Proto.TheVariants.{Lcp}
use Rattle.ppp_auto.specs.Auto.{Auto, is_opened}
use Rattle.ppp_auto.specs.Automaton.{Acted, command, entries_of, take_octets}
use Rattle.ppp_auto.specs.OptionTable.{Table}
use Rattle.ppp_auto.specs.Outbox.{Entry as Told, Send, Signal}
use Rattle.ppp_auto.specs.declared.auto_event.AutoEvent.{AutoEvent}
use Rattle.ppp_auto.specs.declared.auto_event.AutoEvent.TheVariants.{Up, Down, AdminOpen, AdminClose, Timeout, RejectedWell, RejectedBadly}
use Rattle.ppp_frame.specs.Deframer.{DeframerState, feed_step}
use Rattle.ppp_frame.specs.Header.{Read}
use Rattle.ppp_frame.specs.Standing.{fresh}
use Rattle.ppp_link.specs.Automata.{Automata, cap_of, with_cap}
use Rattle.ppp_link.specs.Link.{Link, read_by}
use Rattle.ppp_link.specs.LinkTables.{LinkTables, table_of}
use Rattle.ppp_link.specs.Steps.{Given, Event, Packet, after, is_payload, reject_packet, rejected_in, there, told_by}
use Rattle.ppp_link.specs.declared.link.TheConstants.{MOST_FRAME}
use Rattle.ppp_trunk.specs.StationOut.{Entry, Push, Got, Hang, Dial, Asked}
use Rattle.ppp_trunk.specs.Steps.{Happening, LineUp, LineDown, Opens, Closes, TimesOut, Takes}

-- ---- what an automaton does by orders

pub data Order : Type 0 where
  -- an event of the table without a packet
  Commands : (event : AutoEvent) → Order
  -- the octets that an answer may have change
  SetsCap : (cap : ℕ) → Order
  -- octets come for it
  Hears : (octets : List ℕ) → Order
  -- a Protocol-Reject goes out, which no automaton makes
  RejectsProtocol : (packet : List ℕ) → Order

-- the automaton after orders, and the octets of the packets that it sends, in order
pub record Obeyed : Type 0 where
  pub auto : Auto
  pub sent : List (List ℕ)

abbrev pub sent_one : Told → List (List ℕ)
sent_one (Send octets) = octets ∷ []
sent_one (Signal told) = []

abbrev pub packets_in : List Told → List (List ℕ)
packets_in es = flat_map sent_one es

abbrev pub obeyed : Acted → Obeyed
obeyed acted = record { auto = acted.auto; sent = packets_in (entries_of acted) }

abbrev pub obeys : Table → ℕ → Order → Auto → Obeyed
obeys t word (Commands event) a = obeyed (command t a event word)
obeys t word (SetsCap cap) a = record { auto = with_cap cap a; sent = [] }
obeys t word (Hears octets) a = obeyed (take_octets t a octets word)
obeys t word (RejectsProtocol packet) a = record { auto = a; sent = packet ∷ [] }

abbrev pub and_sends : List (List ℕ) → Obeyed → Obeyed
and_sends sent more = record { auto = more.auto; sent = sent ++ more.sent }

abbrev pub obeys_all : Table → ℕ → List Order → Auto → Obeyed
obeys_all t word [] a = record { auto = a; sent = [] }
obeys_all t word (order ∷ orders) a =
    let first = obeys t word order a in and_sends first.sent (obeys_all t word orders first.auto)

-- ---- what a step of a link is to a protocol

abbrev pub is_same : Proto → Proto → Bool
is_same p q = proto_number q == proto_number p

abbrev pub order_of : Given → Order
order_of (Event event) = Commands event
order_of (Packet octets) = Hears octets

abbrev pub own_order : Proto → Proto → Given → List Order
own_order p q given = if is_same p q then order_of given ∷ [] else []

-- after a row of LCP the caps are set
abbrev pub caps_after : Proto → Automata → List Order
caps_after Lcp k = SetsCap (cap_of k.lcp) ∷ []
caps_after q k = []

-- a frame of an unknown protocol is rejected in LCP's name
abbrev pub rejects_as : Proto → ℕ → List ℕ → Automata → List Order
rejects_as Lcp number info k = RejectsProtocol (reject_packet k.reject_id (cap_of k.lcp) number info) ∷ []
rejects_as q number info k = []

module _ (p : Proto) (t : LinkTables) (word : ℕ) where
  -- something happens to the automaton of q
  abbrev pub of_given : Proto → Given → Automata → List Order
  of_given q given k = own_order p q given ++ caps_after q (after t q given word k)

  -- a received Protocol-Reject that names a configured protocol, or another
  abbrev pub of_rejected_there : Option Proto → Automata → List Order
  of_rejected_there (Some q) k = of_given q (Event RejectedBadly) k
  of_rejected_there None k = of_given Lcp (Event RejectedWell) k

  abbrev pub of_rejected : Option ℕ → Automata → List Order
  of_rejected None k = []
  of_rejected (Some number) k = of_rejected_there (there k (proto_of number)) k

  -- a packet comes for q
  abbrev pub of_packet : Proto → List ℕ → Automata → List Order
  of_packet q octets k =
      of_given q (Packet octets) k
      ++ of_rejected (rejected_in (told_by t q (Packet octets) word k)) (after t q (Packet octets) word k)

  abbrev pub of_other : ℕ → List ℕ → Automata → List Order
  of_other number info k = if is_payload t k number then [] else rejects_as p number info k

  abbrev pub of_frame_for : Option Proto → ℕ → List ℕ → Automata → List Order
  of_frame_for (Some q) number info k = of_packet q info k
  of_frame_for None number info k = of_other number info k

  -- a frame comes: one of LCP always, any other while LCP is Opened
  abbrev pub of_frame : ℕ → List ℕ → Automata → List Order
  of_frame number info k =
      if (number == proto_number Lcp) || is_opened k.lcp.state then of_frame_for (there k (proto_of number)) number info k else []

  abbrev pub of_read : Option Read → Automata → List Order
  of_read None k = []
  of_read (Some read) k = of_frame read.protocol read.info k

abbrev pub of_link : Proto → Happening → Link → ℕ → List Order
of_link p LineUp k word = of_given p k.tables word Lcp (Event Up) k.automata
of_link p LineDown k word = of_given p k.tables word Lcp (Event Down) k.automata
of_link p (Opens q) k word = of_given p k.tables word q (Event AdminOpen) k.automata
of_link p (Closes q) k word = of_given p k.tables word q (Event AdminClose) k.automata
of_link p (TimesOut q) k word = of_given p k.tables word q (Event Timeout) k.automata
of_link p (Takes octets) k word = of_read p k.tables word (feed_step (read_by k.automata.lcp k.deframer) octets).left.frame k.automata

-- the automaton of a protocol after its orders, and what it sends; nothing where it isn't configured
abbrev pub auto_by : LinkTables → Proto → ℕ → List Order → Option Auto → Option Auto
auto_by t p word os a = option_map (λ a. (obeys_all (table_of t p) word os a).auto) a

abbrev pub sent_by : LinkTables → Proto → ℕ → List Order → Option Auto → List (List ℕ)
sent_by t p word os None = []
sent_by t p word os (Some a) = (obeys_all (table_of t p) word os a).sent

-- ---- the packets in frames

-- what a reader who takes both short headers lends of the octets of a frame
abbrev pub open_reader : DeframerState
open_reader = record { reader = record { limit = MOST_FRAME; ac = true; pf = true }; standing = fresh; frame = None }

unfoldable pub read_in : List ℕ → Option Read
read_in octets = (feed_step open_reader octets).left.frame

-- the packet of a protocol, if what is read is of that
abbrev pub packet_if : Proto → Option Read → List (List ℕ)
packet_if p None = []
packet_if p (Some read) = if read.protocol == proto_number p then read.info ∷ [] else []

-- the packets of a protocol among frames that are sent on a link
abbrev pub packet_of : Proto → ℕ → Entry → List (List ℕ)
packet_of p l (Push link octets) = if link == l then packet_if p (read_in octets) else []
packet_of p l (Got class protocol octets) = []
packet_of p l (Hang link) = []
packet_of p l (Dial link) = []
packet_of p l (Asked answer) = []

abbrev pub packets_of : Proto → ℕ → List Entry → List (List ℕ)
packets_of p l es = flat_map (packet_of p l) es
