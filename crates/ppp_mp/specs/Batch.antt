-- Lists of packets as they are kept.
use Rattle.std.specs.Prelude.{◌≡◌, ℕ, ◌+◌, ◌-◌, ◌≤◌, List, [], ◌∷◌, length, map, take, drop, vec_capacity}
use Rattle.std.specs.List.{AllByRecursion}
use Rattle.ppp_mp.specs.declared.batch.Batch.TheInside.{Inside}
use Rattle.ppp_mp.specs.declared.batch.Span.{Span}
use Rattle.ppp_mp.specs.declared.limits.TheConstants.{MOST_HELD}

-- a packet with its class
pub record Packet : Type 0 where
  pub class : ℕ
  pub octets : List ℕ

abbrev pub packet_seen : ℕ → List ℕ → Packet
packet_seen class octets = record { class = class; octets = octets }

-- the room, the packets, and the octets of the one that isn't finished
pub record BatchState : Type 0 where
  pub room : ℕ
  pub packets : List Packet
  pub begun : List ℕ

-- how many octets the packets have together
abbrev pub sizes_in : List Packet → ℕ
sizes_in [] = 0
sizes_in (p ∷ ps) = length p.octets + sizes_in ps

abbrev pub octets_in : BatchState → ℕ
octets_in b = sizes_in b.packets + length b.begun

-- ---- the fields

abbrev pub span_seen : List ℕ → Span → Packet
span_seen octets s = packet_seen s.class (take (s.end - s.start) (drop s.start octets))

abbrev pub batch_seen : Inside → BatchState
batch_seen b = record {
  room = b.room;
  packets = map (span_seen b.octets.items) b.spans.items;
  begun = drop b.start b.octets.items;
}

abbrev pub LiesBelow : ℕ → Span → Type 0
LiesBelow start s = (s.start ≤ s.end) × (s.end ≤ start)

-- The packets lie before the one that isn't finished, and room was taken for all that may come.
pub record IsBatch (b : Inside) : Type 0 where
  pub spans : AllByRecursion (LiesBelow b.start) b.spans.items
  pub start : b.start ≤ length b.octets.items
  pub sum : length b.octets.items ≡ octets_in (batch_seen b)
  pub octets : b.room ≤ vec_capacity b.octets
  pub reserved : MOST_HELD ≤ vec_capacity b.spans
