-- One end of a world: its station, what is counted of its requests, and the frames under way to it, link by link; and what an
-- event at it makes of it, and of the frames under way to the other end.
use Rattle.std.specs.Prelude.{ℕ, Bool, zero, suc, ◌+◌, ◌-◌, ◌≡◌, ◌≤◌, ◌==◌, if◌then◌else◌, List, [], ◌∷◌, ◌++◌, length, map, take, Option, Some, None, slice_get}
use Rattle.std.specs.List.{AllByRecursion, flat_map}
use Rattle.ppp_auto.specs.Auto.{Auto}
use Rattle.ppp_auto.specs.Packet.{Packet, packet_of}
use Rattle.ppp_duet.specs.Duet.{without}
use Rattle.ppp_link.specs.Automata.{auto_at}
use Rattle.ppp_link.specs.Link.{Link}
use Rattle.ppp_trunk.specs.Orders.{Order, Hears, of_link}
use Rattle.ppp_bap.specs.Answer.{IfAsked}
use Rattle.ppp_bap.specs.declared.bap.TheConstants.{BUNDLES}
use Rattle.ppp_bap.specs.declared.bap_ask.BapAsk.{BapAsk}
use Rattle.ppp_bap.specs.declared.call_ask.CallAsk.{CallAsk}
use Rattle.ppp_bundle.specs.Bundles.{bundle_at}
use Rattle.ppp_trunk.specs.Trunk.{Trunk}
use Rattle.ppp_trunk.specs.StationOut.{AreShort, Asked, Dial, Entry, Got, Hang, Out, Push}
use Rattle.ppp_trunk.specs.Steps.{Happening, LineDown, Takes}
use Rattle.ppp_station.specs.Station.{IsStation, Station, Stepped, asked_for_octets, asks_peer, hears, moves, station_anew, tells_peer, tries_again}
use Rattle.ppp_station.specs.Shipped.{answered}
use Rattle.ppp_station.specs.Steps.{bundle_timed}
use Rattle.ppp_party.specs.Calls.{Calls, calls_begun, notes_ask, notes_drawn, ordinal_if}
use Rattle.ppp_party.specs.Frame.{Frame, marked_frames, noted_frames}
use Rattle.ppp_party.specs.Ledger.{Ledger, Ledgers, heard, ledger_at, ledgers_begun, ledgers_by}

-- its links in bundles, what is kept of BAP, and link by link what is counted and under way
pub record Party : Type 0 where
  pub trunk : Trunk
  pub calls : Calls
  pub ledgers : List Ledgers
  pub incoming : List (List Frame)

-- the same with its station's policy
pub record Whole (F : Type 0) : Type 0 where
  pub policy : F
  pub party : Party

-- as the code keeps it
abbrev pub party_seen : {F : Type 0} → F → Station → ℕ → List ℕ → List Ledgers → List (List Frame) → Whole F
party_seen policy st drawn ordinals ledgers incoming = record {
  policy = policy;
  party = record {
    trunk = st.trunk;
    calls = record { requests = st.requests; terms = st.terms; drawn = drawn; ordinals = ordinals };
    ledgers = ledgers;
    incoming = incoming;
  };
}

-- its station
abbrev pub station_of : Party → Station
station_of e = record { trunk = e.trunk; requests = e.calls.requests; terms = e.calls.terms }

-- How many frames a queue holds. One that is sent into a full queue is lost.
abbrev pub room : ℕ
room = 1024

-- no queue is too long
abbrev pub AreRoomy : List (List Frame) → Type 0
AreRoomy queues = AllByRecursion (λ queue. length queue ≤ room) queues

-- As many ledgers and queues as links, and an ordinal for each bundle; and what always holds of a station.
pub record IsParty (e : Party) : Type 0 where
  pub station : IsStation (station_of e)
  pub ordinals : length e.calls.ordinals ≡ BUNDLES
  pub ledgers : length e.ledgers ≡ length e.trunk.links
  pub incoming : length e.incoming ≡ length e.trunk.links
  pub few : AreRoomy e.incoming

-- the first link with a frame under way to the end, from that number on
abbrev pub first_busy : ℕ → List (List Frame) → Option ℕ
first_busy l [] = None
first_busy l ([] ∷ queues) = first_busy (l + 1) queues
first_busy l ((f ∷ rest) ∷ queues) = Some l

-- ---- what goes out

-- the frames that go out on a link
abbrev pub push_on : ℕ → Entry → List (List ℕ)
push_on m (Push l octets) = if l == m then octets ∷ [] else []
push_on m (Got class protocol octets) = []
push_on m (Hang l) = []
push_on m (Dial l) = []
push_on m (Asked answer) = []

abbrev pub pushes_on : ℕ → List Entry → List (List ℕ)
pushes_on m es = flat_map (push_on m) es

abbrev pub queued : List Frame → List Frame → List Frame
queued queue sent = take room (queue ++ sent)

-- link by link, from that number on
abbrev pub each_noted : ℕ → List Entry → List Ledgers → List Ledgers
each_noted m es [] = []
each_noted m es (gs ∷ more) = noted_frames gs (pushes_on m es) ∷ each_noted (m + 1) es more

abbrev pub each_queued : ℕ → ℕ → List Entry → List Ledgers → List (List Frame) → List (List Frame)
each_queued m mark es (gs ∷ more) (queue ∷ queues) =
    queued queue (marked_frames gs mark (pushes_on m es)) ∷ each_queued (m + 1) mark es more queues
each_queued m mark es [] queues = queues
each_queued m mark es gs [] = []

-- an end, and the other one
pub record Ends : Type 0 where
  pub own : Party
  pub other : Party

-- the station's step is done, and what goes out is noted and under way, behind a frame of that mark
abbrev pub posted : ℕ → Stepped → Ends → Ends
posted mark step e = record {
  own = record e.own {
    trunk = step.station.trunk;
    calls = record e.own.calls { requests = step.station.requests };
    ledgers = each_noted 1 step.out.entries e.own.ledgers;
  };
  other = record e.other { incoming = each_queued 1 mark step.out.entries e.own.ledgers e.other.incoming };
}

-- ---- what happens at the end

-- something that brings no frame
unfoldable pub happens : Happening → ℕ → ℕ → Ends → Ends
happens what l word e = posted 0 (moves what l (station_of e.own) word) e

-- The peer of a link's bundle is asked: where the request goes out it has the next ordinal, which the wait keeps.
abbrev pub asked : ℕ → BapAsk → Stepped → Ends → Ends
asked l what step e =
    posted (e.own.calls.drawn + 1) step
    (record e { own = record e.own { calls = notes_ask (bundle_at l e.own.trunk.bundles) step.out.entries e.own.calls } })

unfoldable pub asks : ℕ → BapAsk → ℕ → Ends → Ends
asks l what word e = asked l what (asks_peer l what (station_of e.own) word) e

-- The peer of a link's bundle is told how a call went: where that goes out it has the next ordinal.
abbrev pub told : Stepped → Ends → Ends
told step e =
    posted (e.own.calls.drawn + 1) step (record e { own = record e.own { calls = notes_drawn step.out.entries e.own.calls } })

unfoldable pub tells : ℕ → ℕ → ℕ → Ends → Ends
tells l status word e = told (tells_peer l status (station_of e.own) word) e

-- The timer of BAP fires: a request that goes out again keeps its ordinal.
unfoldable pub tries : ℕ → ℕ → Ends → Ends
tries l word e = posted (ordinal_if (bundle_timed l e.own.trunk) e.own.calls) (tries_again l (station_of e.own) word) e

-- at a link, from 1 on
abbrev pub at_link : {X : Type 0} → ℕ → (X → X) → List X → List X
at_link l f [] = []
at_link zero f (x ∷ xs) = x ∷ xs
at_link (suc zero) f (x ∷ xs) = f x ∷ xs
at_link (suc (suc l)) f (x ∷ xs) = x ∷ at_link (suc l) f xs

-- a request is heard of where its packet comes for an automaton that is beyond Initial and Starting
abbrev pub heard_packet : Ledger → Option Auto → ℕ → Option Packet → Ledger
heard_packet g (Some a) mark (Some packet) = heard g a.state mark packet
heard_packet g a mark packet = g

abbrev pub heard_by : Ledger → Option Auto → ℕ → List Order → Ledger
heard_by g a mark (Hears octets ∷ more) = heard_packet g a mark (packet_of octets)
heard_by g a mark orders = g

abbrev pub heard_on : Link → Frame → ℕ → Ledgers → Ledgers
heard_on k f word gs =
    ledgers_by (λ p. heard_by (ledger_at gs p) (auto_at k.automata p) f.mark (of_link p (Takes f.octets) k word))

-- the frame is taken out of its queue, heard of, and given to the station, whose policy answers so where it is asked
abbrev pub with_heard : ℕ → ℕ → Frame → List Frame → Option Link → Party → Party
with_heard l word f rest (Some k) e = record e { ledgers = at_link l (heard_on k f word) e.ledgers; incoming = at_link l (λ queue. rest) e.incoming }
with_heard l word f rest None e = e

-- what the policy is asked for a frame, if it is
abbrev pub asked_for_frame : ℕ → ℕ → Frame → Party → Option CallAsk
asked_for_frame l word f e = asked_for_octets l f.octets (station_of e) word

abbrev pub taken : (CallAsk → Bool) → ℕ → ℕ → Frame → Party → Stepped
taken says l word f e = hears (answered says (asked_for_frame l word f e)) l f.octets (station_of e) word

abbrev pub taking : (CallAsk → Bool) → ℕ → ℕ → Frame → List Frame → Ends → Ends
taking says l word f rest e =
    posted f.mark (taken says l word f e.own)
    (record e { own = with_heard l word f rest (slice_get e.own.trunk.links (l - 1)) e.own })

abbrev pub taking_front : (CallAsk → Bool) → ℕ → ℕ → Option (List Frame) → Ends → Ends
taking_front says l word None e = e
taking_front says l word (Some []) e = e
taking_front says l word (Some (f ∷ rest)) e = taking says l word f rest e

-- the front frame of a link is taken, if there is one
unfoldable pub delivers : (CallAsk → Bool) → ℕ → ℕ → Ends → Ends
delivers says l word e = taking_front says l word (slice_get e.own.incoming (l - 1)) e

-- what the policy is asked for that, if it is
abbrev pub asked_for_front : ℕ → ℕ → Option (List Frame) → Party → Option CallAsk
asked_for_front l word None e = None
asked_for_front l word (Some []) e = None
asked_for_front l word (Some (f ∷ rest)) e = asked_for_frame l word f e

abbrev pub asked_in_delivery : ℕ → ℕ → Party → Option CallAsk
asked_in_delivery l word e = asked_for_front l word (slice_get e.incoming (l - 1)) e

-- no frame is too long that the end sends for the front frame
abbrev pub IsShortDelivery : (CallAsk → Bool) → ℕ → ℕ → Party → Type 0
IsShortDelivery says l word e =
    (f : Frame) (rest : List Frame) → slice_get e.incoming (l - 1) ≡ Some (f ∷ rest) → AreShort (taken says l word f e).out.entries

-- the policy says yes or no where it is asked, and the station takes the octets as follows from that
pub record Taken (says : CallAsk → Bool → Type 0) (l : ℕ) (octets : List ℕ) (word : ℕ) (old new : Station) (out : Out) : Type 0 where
  pub allowed : Bool
  pub said : IfAsked says (asked_for_octets l octets old word) allowed
  pub station : new ≡ (hears allowed l octets old word).station
  pub sent : out ≡ (hears allowed l octets old word).out

-- the policy says yes or no where it is asked, and the delivery is the one that follows
pub record Delivered (says : CallAsk → Bool → Type 0) (l word : ℕ) (before after : Ends) : Type 0 where
  pub allowed : Bool
  pub said : IfAsked says (asked_in_delivery l word before.own) allowed
  pub is : after ≡ delivers (λ question. allowed) l word before
  pub short : IsShortDelivery (λ question. allowed) l word before.own

-- the frame of that place under way to the end is lost, from 1 on
unfoldable pub loses : ℕ → ℕ → Ends → Ends
loses l place e = record e { own = record e.own { incoming = at_link l (without place) e.own.incoming } }

-- ---- an end begins anew

-- as it begins, with that station
abbrev pub party_begun : Station → Party
party_begun st = record {
  trunk = st.trunk;
  calls = calls_begun st;
  ledgers = map (λ k. ledgers_begun) st.trunk.links;
  incoming = map (λ k. []) st.trunk.links;
}

abbrev pub ends_begun : Station → Station → Ends
ends_begun own other = record { own = party_begun own; other = party_begun other }

-- what the other end has heard of counts no longer, and nothing is under way to it
abbrev pub unheard : Ledgers → Ledgers
unheard gs = ledgers_by (λ p. record (ledger_at gs p) { got = 0 })

abbrev pub cleared : Party → Party
cleared e = record e { ledgers = map unheard e.ledgers; incoming = map (λ queue. []) e.incoming }

-- so many lines go down, from that number on
abbrev pub downs : ℕ → ℕ → ℕ → Ends → Ends
downs zero l word e = e
downs (suc more) l word e = downs more (l + 1) word (happens LineDown l word e)

abbrev pub turned : Ends → Ends
turned e = record { own = e.other; other = e.own }

-- What is under way both ways is lost, the station begins anew, and the other end sees its lines go down, one after the other.
unfoldable pub reboots : ℕ → Ends → Ends
reboots word e =
    turned (downs (length e.other.trunk.links) 1 word (record {
      own = cleared e.other;
      other = party_begun (station_anew (station_of e.own));
    }))
