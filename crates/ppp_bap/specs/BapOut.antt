-- What a step of BAP sends and tells, and the list that holds it.
use Rattle.std.specs.Prelude.{ℕ, ◌≤◌, List, length, map}
use Rattle.ppp_bap.specs.declared.bap_out.BapEntry.{BapEntry}
use Rattle.ppp_bap.specs.declared.bap_out.BapEntry.TheVariants as lent
use Rattle.ppp_bap.specs.declared.bap_out.BapOut.TheInside.{Inside}
use Rattle.ppp_bap.specs.declared.bap_out.Slot.{Slot}
use Rattle.ppp_bap.specs.declared.bap_out.Slot.TheVariants as kept
use Rattle.ppp_bap.specs.declared.bap_out.TheConstants.{MOST_PACKET}

pub data Entry : Type 0 where
  -- a packet to send on the control link
  Send : (octets : List ℕ) → Entry
  -- the peer was promised that a link goes
  Mark : (link : ℕ) → Entry
  -- the peer agreed that a link goes
  CloseLink : (link : ℕ) → Entry
  -- a link is to be brought up
  Dial : (link : ℕ) → Entry

-- an entry that is lent
abbrev pub entry_seen : BapEntry → Entry
entry_seen (lent.Send octets) = Send octets.now
entry_seen (lent.Mark link) = Mark link
entry_seen (lent.CloseLink link) = CloseLink link
entry_seen (lent.Dial link) = Dial link

-- an entry that is kept, beside the packet
abbrev pub slot_seen : List ℕ → Slot → Entry
slot_seen packet kept.Send = Send packet
slot_seen packet (kept.Mark link) = Mark link
slot_seen packet (kept.CloseLink link) = CloseLink link
slot_seen packet (kept.Dial link) = Dial link

abbrev pub out_seen : Inside → List Entry
out_seen b = map (slot_seen b.packet.items) b.slots.items

-- a packet has no more octets than the longest
abbrev pub IsShort : Entry → Type 0
IsShort (Send octets) = length octets ≤ MOST_PACKET
IsShort entry = Unit {0}
