-- What a step of a station is to its links: moves, one after the other.
use Rattle.std.specs.Prelude.{◌≡◌, ◌≤◌, ℕ, ◌-◌, List, [], ◌∷◌, ◌++◌, length, slice_get, ⊤}
use Rattle.std.specs.List.{AllByRecursion}
use Rattle.ppp_packet.specs.declared.proto.Proto.TheVariants.{Lcp}
use Rattle.ppp_bundle.specs.Bundles.{marked_at}
use Rattle.ppp_auto.specs.declared.outbox.TheConstants.{MOST_OCTETS as MOST_PACKET}
use Rattle.ppp_trunk.specs.StationOut.{Asked, Dial, Entry, Got, Hang, Push}
use Rattle.ppp_trunk.specs.Steps.{Closes, Happening, frame_on}
use Rattle.ppp_trunk.specs.Trunk.{IsOfLink, Trunk, on_link}
use Rattle.ppp_trunk.specs.declared.steps.TheConstants.{BAP}
use Rattle.ppp_station.specs.Station.{Station}
use Rattle.ppp_station.specs.Steps.{passed_on}

pub data Move : Type 0 where
  -- something happens to a link
  Does : (what : Happening) (l : ℕ) → Move
  -- a packet of BAP goes out on a link
  Sends : (l : ℕ) (octets : List ℕ) → Move
  -- a link is marked
  Marks : (l : ℕ) → Move
  -- an entry is told that is no frame
  Tells : (entry : Entry) → Move

-- the links as they are now, and the entries so far
pub record Moved : Type 0 where
  pub trunk : Trunk
  pub out : List Entry

abbrev pub moves_one : ℕ → Move → Moved → Moved
moves_one word (Does what l) m =
    let t = on_link what l m.trunk word in record { trunk = t.trunk; out = m.out ++ passed_on t.out.entries }
moves_one word (Sends l octets) m = record m { out = m.out ++ frame_on (slice_get m.trunk.links (l - 1)) l BAP octets }
moves_one word (Marks l) m = record m { trunk = record m.trunk { bundles = marked_at l m.trunk.bundles } }
moves_one word (Tells entry) m = record m { out = m.out ++ entry ∷ [] }

abbrev pub moves_all : ℕ → List Move → Moved → Moved
moves_all word [] m = m
moves_all word (x ∷ xs) m = moves_all word xs (moves_one word x m)

-- ---- what BAP may cause

-- a link is dialled, or an answer told
abbrev pub IsTold : Entry → Type 0
IsTold (Dial l) = ⊤
IsTold (Asked answer) = ⊤
IsTold (Push l octets) = ⊥
IsTold (Got class protocol octets) = ⊥
IsTold (Hang l) = ⊥

-- LCP of a link closes, and nothing else happens to one
abbrev pub IsClosing : Happening → Type 0
IsClosing (Closes Lcp) = ⊤
IsClosing what = ⊥

-- it is of one of so many links
abbrev pub IsCaused : ℕ → Move → Type 0
IsCaused links (Does what l) = IsClosing what × IsOfLink links l
IsCaused links (Sends l octets) = IsOfLink links l × (length octets ≤ MOST_PACKET)
IsCaused links (Marks l) = ⊤
IsCaused links (Tells entry) = IsTold entry

abbrev pub AreCaused : ℕ → List Move → Type 0
AreCaused links moves = AllByRecursion (IsCaused links) moves

-- From these moves on, what BAP causes leads to the links and entries of a step.
pub record IsMoved (first : List Move) (word : ℕ) (before after : Station) (out : List Entry) : Type 0 where
  pub more : List Move
  pub caused : AreCaused (length before.trunk.links) more
  pub leads : moves_all word (first ++ more) (record { trunk = before.trunk; out = [] }) ≡ record { trunk = after.trunk; out = out }
