-- One link of an end: its trunk's link, its ledgers, and the frames under way on it both ways; and what an event at the end,
-- on that link or another, makes of these. It is what two ends of one protocol on one link are read off.
use Rattle.std.specs.Prelude.{◌≡◌, ℕ, ◌+◌, ◌-◌, ◌≤◌, ⊤, List, length, Some, slice_get}
use Rattle.std.specs.List.{AllByRecursion}
use Rattle.ppp_auto.specs.Auto.{Auto}
use Rattle.ppp_duet.specs.Duet as duet
use Rattle.ppp_duet.specs.Duet.{Duet, End, Setup, without}
use Rattle.ppp_frame.specs.declared.form.Form.{Form}
use Rattle.ppp_frame.specs.Frame.{enc}
use Rattle.ppp_frame.specs.Standing.{fresh}
use Rattle.ppp_packet.specs.Proto.{proto_number}
use Rattle.ppp_packet.specs.declared.proto.Proto.{Proto}
use Rattle.ppp_link.specs.Automata.{auto_at, automata_begun}
use Rattle.ppp_link.specs.Link.{Link}
use Rattle.ppp_link.specs.LinkTables.{LinkTables, table_of}
use Rattle.ppp_link.specs.declared.link.TheConstants.{MOST_FRAME}
use Rattle.ppp_trunk.specs.Phases.{IsTrunk}
use Rattle.ppp_trunk.specs.declared.steps.TheConstants.{BAP}
use Rattle.ppp_trunk.specs.Steps.{Happening, LineUp, LineDown, Opens, Closes, TimesOut, Takes}
use Rattle.ppp_party.specs.Events.{Leads, Makes}
use Rattle.ppp_party.specs.Frame.{Frame, marked_frames, noted_frames, only}
use Rattle.ppp_party.specs.Ledger.{Ledgers, IsLedgerOf, end_of, ledger_at, first_id}
use Rattle.ppp_party.specs.Party.{Ends, heard_on, queued, room, turned}

pub record Seat : Type 0 where
  pub link : Link
  pub ledgers : Ledgers
  pub incoming : List Frame
  pub outgoing : List Frame

-- that link of an end, and of the frames under way to the other
pub record SeatAt (m : ℕ) (e : Ends) (s : Seat) : Type 0 where
  pub link : slice_get e.own.trunk.links (m - 1) ≡ Some s.link
  pub ledgers : slice_get e.own.ledgers (m - 1) ≡ Some s.ledgers
  pub incoming : slice_get e.own.incoming (m - 1) ≡ Some s.incoming
  pub outgoing : slice_get e.other.incoming (m - 1) ≡ Some s.outgoing

-- ---- what happens at the end

-- the link is as the trunk's step leaves it, and what goes out on it is noted and under way, behind a frame of that mark
abbrev pub seat_posted : ℕ → Link → List (List ℕ) → Seat → Seat
seat_posted mark now frames s = record {
  link = now;
  ledgers = noted_frames s.ledgers frames;
  incoming = s.incoming;
  outgoing = queued s.outgoing (marked_frames s.ledgers mark frames);
}

-- a frame is taken out of its queue and heard of
abbrev pub seat_heard : ℕ → Frame → List Frame → Seat → Seat
seat_heard word f rest s = record s { ledgers = heard_on s.link f word s.ledgers; incoming = rest }

abbrev pub seat_loses : ℕ → Seat → Seat
seat_loses place s = record s { incoming = without place s.incoming }

-- no octets come by it
abbrev pub IsNoFrame : Happening → Type 0
IsNoFrame LineUp = ⊤
IsNoFrame LineDown = ⊤
IsNoFrame (Opens p) = ⊤
IsNoFrame (Closes p) = ⊤
IsNoFrame (TimesOut p) = ⊤
IsNoFrame (Takes octets) = ⊥

-- ---- what holds on the link

-- whose packet a frame carries that an end sends: a control protocol's, or BAP's
pub data Sender : Type 0 where
  Control : (proto : Proto) → Sender
  Bap : Sender

abbrev pub sender_number : Sender → ℕ
sender_number (Control p) = proto_number p
sender_number Bap = BAP

-- these octets are what is sent of some packet of these
pub record IsSent (octets : List ℕ) : Type 0 where
  pub form : Form
  pub sender : Sender
  pub info : List ℕ
  pub is : octets ≡ enc form (sender_number sender) info
  pub few : length info + 6 ≤ MOST_FRAME

abbrev pub AreSent : List Frame → Type 0
AreSent frames = AllByRecursion (λ f. IsSent f.octets) frames

-- between two frames the deframer stands as after a flag
pub record IsSettled (k : Link) : Type 0 where
  pub stands : k.deframer.standing ≡ fresh
  pub limit : k.deframer.reader.limit ≡ MOST_FRAME

pub record IsWell (s : Seat) : Type 0 where
  pub settled : IsSettled s.link
  pub incoming : AreSent s.incoming
  pub outgoing : AreSent s.outgoing
  pub few : length s.outgoing ≤ room

-- ---- the two ends of a protocol

-- an end of that table begins with the first Identifier, and the protocol is configured among these tables
pub record IsSpoken (sa : Setup) (p : Proto) (t : LinkTables) : Type 0 where
  pub first : sa.first ≡ first_id
  pub table : sa.table ≡ table_of t p
  pub auto : Auto
  pub there : auto_at (automata_begun t) p ≡ Some auto

-- the end of a protocol on the link, with that automaton
pub record IsEnd (sa : Setup) (p : Proto) (s : Seat) (a : Auto) : Type 0 where
  pub spoken : IsSpoken sa p s.link.tables
  pub auto : auto_at s.link.automata p ≡ Some a
  pub kept : IsLedgerOf a (ledger_at s.ledgers p)

-- the two ends, where the other one is that
abbrev pub seat_duet : Proto → Auto → Seat → End → Duet
seat_duet p a s b = record { a = end_of a (ledger_at s.ledgers p); b = b; to_a = only p s.incoming; to_b = only p s.outgoing }

-- a protocol is configured on that link of an end, with that automaton, and all is well there and at the end's trunk
pub record IsSeated (sa : Setup) (p : Proto) (m : ℕ) (e : Ends) (s : Seat) (a : Auto) : Type 0 where
  pub trunk : IsTrunk e.own.trunk
  pub at : SeatAt m e s
  pub well : IsWell s
  pub end : IsEnd sa p s a

-- What an event came to for a protocol on a link: the link as it is then, its automaton, and a list of the two ends' events, of
-- which only the first may be a delivery, that leads there.
pub record Came (sa sb : Setup) (p : Proto) (m : ℕ) (s : Seat) (a : Auto) (b : End) (after : Ends) : Type 0 where
  pub seat : Seat
  pub auto : Auto
  pub seated : IsSeated sa p m after seat auto
  pub fewer : length seat.incoming ≤ length s.incoming
  pub makes : Makes sa sb (seat_duet p a s b) (seat_duet p auto seat b)

-- What it came to that both ends began, or one of them anew: the link at both as it is then, the automata of the protocol, and a
-- list of the two ends' events that leads there and delivers nothing.
pub record Anew (sa sb : Setup) (p : Proto) (m : ℕ) (before : Duet) (after : Ends) : Type 0 where
  pub own : Seat
  pub other : Seat
  pub own_auto : Auto
  pub other_auto : Auto
  pub own_seated : IsSeated sa p m after own own_auto
  pub other_seated : IsSeated sb p m (turned after) other other_auto
  pub leads : Leads sa sb before (seat_duet p own_auto own (end_of other_auto (ledger_at other.ledgers p)))

-- the two ends' event that the first begins anew
abbrev pub rebooted : Setup → Setup → ℕ → Duet → Duet
rebooted sa sb word d = duet.happens sa sb d (record { side = duet.A; what = duet.Reboots; word = word })
