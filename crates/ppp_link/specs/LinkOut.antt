-- What a step of a link sends and tells, and the list that holds it.
use Rattle.std.specs.Prelude.{ℕ, ◌+◌, ◌-◌, ◌*◌, ◌≤◌, List, [], ◌∷◌, length, map, take, drop, vec_len, vec_capacity}
use Rattle.arrayvec.specs.ArrayVec.{array_vec_len}
use Rattle.ppp_packet.specs.declared.proto.Proto.{Proto}
use Rattle.ppp_link.specs.declared.link_out.LinkEntry.{LinkEntry}
use Rattle.ppp_link.specs.declared.link_out.LinkEntry.TheVariants as lent
use Rattle.ppp_link.specs.declared.link_out.LinkOut.TheInside.{Inside}
use Rattle.ppp_link.specs.declared.link_out.Slot.{Slot}
use Rattle.ppp_link.specs.declared.link_out.Slot.TheVariants as kept
use Rattle.ppp_link.specs.declared.link_out.TheConstants.{MOST_PUSH, MOST_OCTETS, CAPACITY}

pub data Entry : Type 0 where
  -- the octets of a frame to send, flags and all
  Push : (octets : List ℕ) → Entry
  -- LCP came to be Opened, left Opened, finished
  LcpUp : Entry
  LcpDown : Entry
  Finished : Entry
  -- a control protocol came to be Opened, left Opened
  NetUp : (proto : Proto) → Entry
  NetDown : (proto : Proto) → Entry
  -- what a frame carries that is no control protocol's: a datagram, a fragment or a packet of BAP
  Payload : (protocol : ℕ) (octets : List ℕ) → Entry

-- an entry that is lent
abbrev pub entry_seen : LinkEntry → Entry
entry_seen (lent.Push octets) = Push octets.now
entry_seen lent.LcpUp = LcpUp
entry_seen lent.LcpDown = LcpDown
entry_seen lent.Finished = Finished
entry_seen (lent.NetUp proto) = NetUp proto
entry_seen (lent.NetDown proto) = NetDown proto
entry_seen (lent.Payload protocol octets) = Payload protocol octets.now

-- an entry that is kept: its octets lie among the others
abbrev pub slot_seen : List ℕ → Slot → Entry
slot_seen octets (kept.Push start end) = Push (take (end - start) (drop start octets))
slot_seen octets (kept.Payload protocol start end) = Payload protocol (take (end - start) (drop start octets))
slot_seen octets kept.LcpUp = LcpUp
slot_seen octets kept.LcpDown = LcpDown
slot_seen octets kept.Finished = Finished
slot_seen octets (kept.NetUp proto) = NetUp proto
slot_seen octets (kept.NetDown proto) = NetDown proto

abbrev pub out_seen : Inside → List Entry
out_seen b = map (slot_seen b.octets.items) b.slots.items

-- an entry is no longer than the longest of its kind
abbrev pub IsShort : Entry → Type 0
IsShort (Push octets) = length octets ≤ MOST_PUSH
IsShort (Payload protocol octets) = length octets ≤ MOST_OCTETS
IsShort entry = Unit {0}

-- what a slot points to lies within the octets, and is no longer
abbrev pub IsWithin : List ℕ → Slot → Type 0
IsWithin octets (kept.Push start end) = (start ≤ end) × (end ≤ length octets) × (end ≤ start + MOST_PUSH)
IsWithin octets (kept.Payload protocol start end) = (start ≤ end) × (end ≤ length octets) × (end ≤ start + MOST_OCTETS)
IsWithin octets slot = Unit {0}

abbrev pub AreWithin : List ℕ → List Slot → Type 0
AreWithin octets [] = Unit {0}
AreWithin octets (slot ∷ slots) = IsWithin octets slot × AreWithin octets slots

-- Each entry takes at most the octets of the longest, and room for all was taken.
pub record IsLinkOut (b : Inside) : Type 0 where
  pub within : AreWithin b.octets.items b.slots.items
  pub sizes : vec_len b.octets ≤ MOST_OCTETS * array_vec_len b.slots
  pub room : CAPACITY ≤ vec_capacity b.octets
