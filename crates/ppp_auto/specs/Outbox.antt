-- What a step sends and tells, and the outbox that holds it.
use Rattle.std.specs.Prelude.{ℕ, ◌+◌, ◌-◌, ◌*◌, ◌≤◌, List, [], ◌∷◌, length, map, take, drop, vec_len, vec_capacity}
use Rattle.arrayvec.specs.ArrayVec.{array_vec_len}
use Rattle.ppp_auto.specs.declared.layer_signal.LayerSignal.{LayerSignal}
use Rattle.ppp_auto.specs.declared.outbox.TheConstants.{MOST_OCTETS, CAPACITY}
use Rattle.ppp_auto.specs.declared.outbox.EntryRef.{EntryRef}
use Rattle.ppp_auto.specs.declared.outbox.EntryRef.TheVariants as lent
use Rattle.ppp_auto.specs.declared.outbox.Slot.{Slot}
use Rattle.ppp_auto.specs.declared.outbox.Slot.TheVariants as kept
use Rattle.ppp_auto.specs.declared.outbox.Outbox.TheInside.{Inside}
use Rattle.ppp_auto.specs.Packet.{Packet, octets_of}

-- what is sent, and what the layers beside are told
pub data Effect : Type 0 where
  Sends : (packet : Packet) → Effect
  Tells : (told : LayerSignal) → Effect

-- the same as the layer above sees it: whole packets in octets
pub data Entry : Type 0 where
  Send : (octets : List ℕ) → Entry
  Signal : (told : LayerSignal) → Entry

abbrev pub entry_of : Effect → Entry
entry_of (Sends packet) = Send (octets_of packet)
entry_of (Tells told) = Signal told

-- an entry that is lent
abbrev pub entry_seen : EntryRef → Entry
entry_seen (lent.Send octets) = Send octets.now
entry_seen (lent.Signal told) = Signal told

-- an entry that is kept: its packet lies in the octets
abbrev pub slot_seen : List ℕ → Slot → Entry
slot_seen octets (kept.Packet start end) = Send (take (end - start) (drop start octets))
slot_seen octets (kept.Told told) = Signal told

abbrev pub outbox_seen : Inside → List Entry
outbox_seen b = map (slot_seen b.octets.items) b.slots.items

-- a packet has at most 1,500 octets
abbrev pub IsShort : Entry → Type 0
IsShort (Send octets) = length octets ≤ MOST_OCTETS
IsShort (Signal told) = Unit {0}

-- each packet lies within the octets, and is short
abbrev pub AreWithin : List ℕ → List Slot → Type 0
AreWithin octets [] = Unit {0}
AreWithin octets (kept.Packet start end ∷ slots) = (start ≤ end) × (end ≤ length octets) × (end ≤ start + MOST_OCTETS) × AreWithin octets slots
AreWithin octets (kept.Told told ∷ slots) = AreWithin octets slots

-- Each entry takes at most 1,500 octets, and room for four was taken.
pub record IsOutbox (b : Inside) : Type 0 where
  pub within : AreWithin b.octets.items b.slots.items
  pub sizes : vec_len b.octets ≤ MOST_OCTETS * array_vec_len b.slots
  pub room : CAPACITY ≤ vec_capacity b.octets
