-- What an event of a trunk sends and tells, and the list that holds it.
use Rattle.std.specs.Prelude.{ℕ, ◌+◌, ◌-◌, ◌≤◌, List, [], ◌∷◌, length, map, take, drop, Option, None, Result, ⊤, vec_len, vec_capacity}
use Rattle.std.specs.List.{AllByRecursion}
use Rattle.ppp_bap.specs.declared.ask_refused.AskRefused.{AskRefused}
use Rattle.ppp_link.specs.declared.link_out.TheConstants.{MOST_PUSH}
use Rattle.ppp_trunk.specs.declared.station_out.StationEntry.{StationEntry}
use Rattle.ppp_trunk.specs.declared.station_out.StationEntry.TheVariants as lent
use Rattle.ppp_trunk.specs.declared.station_out.StationOut.TheInside.{Inside}
use Rattle.ppp_trunk.specs.declared.station_out.Slot.{Slot}
use Rattle.ppp_trunk.specs.declared.station_out.Slot.TheVariants as kept
use Rattle.ppp_trunk.specs.declared.station_out.TheConstants.{MOST_ENTRIES, MOST_OCTETS}

pub data Entry : Type 0 where
  -- the octets of a frame to send on a link, flags and all
  Push : (link : ℕ) (octets : List ℕ) → Entry
  -- a datagram, with its class where it came in a bundle
  Got : (class : Option ℕ) (protocol : ℕ) (octets : List ℕ) → Entry
  -- LCP is done with the line of a link
  Hang : (link : ℕ) → Entry
  -- a link is to be brought up
  Dial : (link : ℕ) → Entry
  -- what is answered to one who asks the peer
  Asked : (answer : Result ⊤ AskRefused) → Entry

-- the entries, and how many octets were used
pub record Out : Type 0 where
  pub entries : List Entry
  pub used : ℕ

-- an entry that is lent
abbrev pub entry_seen : StationEntry → Entry
entry_seen (lent.Push link octets) = Push link octets.now
entry_seen (lent.Got class protocol octets) = Got class protocol octets.now
entry_seen (lent.Hang link) = Hang link
entry_seen (lent.Dial link) = Dial link
entry_seen (lent.Asked answer) = Asked answer

-- an entry that is kept: its octets lie among the others
abbrev pub slot_seen : List ℕ → Slot → Entry
slot_seen octets (kept.Push link start end) = Push link (take (end - start) (drop start octets))
slot_seen octets (kept.Got protocol start end) = Got None protocol (take (end - start) (drop start octets))
slot_seen octets (kept.Hang link) = Hang link
slot_seen octets (kept.Dial link) = Dial link
slot_seen octets (kept.Asked answer) = Asked answer

abbrev pub out_seen : Inside → Out
out_seen b = record { entries = map (slot_seen b.octets.items) b.slots.items; used = b.used }

-- the octets of entries
abbrev pub octets_of : Entry → ℕ
octets_of (Push link octets) = length octets
octets_of (Got class protocol octets) = length octets
octets_of (Hang link) = 0
octets_of (Dial link) = 0
octets_of (Asked answer) = 0

abbrev pub all_octets : List Entry → ℕ
all_octets [] = 0
all_octets (e ∷ es) = octets_of e + all_octets es

-- each frame that is sent has no more octets than the longest
abbrev pub IsShortFrame : Entry → Type 0
IsShortFrame (Push link octets) = length octets ≤ MOST_PUSH
IsShortFrame entry = Unit {0}

abbrev pub AreShort : List Entry → Type 0
AreShort es = AllByRecursion IsShortFrame es

-- what a slot points to lies within the octets
abbrev pub IsWithin : List ℕ → Slot → Type 0
IsWithin octets (kept.Push link start end) = (start ≤ end) × (end ≤ length octets)
IsWithin octets (kept.Got protocol start end) = (start ≤ end) × (end ≤ length octets)
IsWithin octets (kept.Hang link) = Unit {0}
IsWithin octets (kept.Dial link) = Unit {0}
IsWithin octets (kept.Asked answer) = Unit {0}

abbrev pub AreWithin : List ℕ → List Slot → Type 0
AreWithin octets [] = Unit {0}
AreWithin octets (slot ∷ slots) = IsWithin octets slot × AreWithin octets slots

-- The octets are those of the entries, no frame is longer than the longest, and room was taken for all that comes.
pub record IsStationOut (b : Inside) : Type 0 where
  pub within : AreWithin b.octets.items b.slots.items
  pub sizes : vec_len b.octets ≤ all_octets (map (slot_seen b.octets.items) b.slots.items)
  pub short : AreShort (map (slot_seen b.octets.items) b.slots.items)
  pub room : MOST_OCTETS ≤ vec_capacity b.octets
  pub slots : MOST_ENTRIES ≤ vec_capacity b.slots
