-- The table as the code keeps it, and what is so of each table.
use Rattle.std.specs.Prelude.{◌≡◌, ℕ, ◌<◌, ◌≤◌, ◌↔◌, List, [], ◌∷◌, length, map, slice_index_or, Option, Some, None, IsTrue, IsFalse, vec_capacity}
use Rattle.std.specs.List.{AllByRecursion}
use Rattle.std.specs.Option.{option_map}
use Rattle.ppp_lcp.specs.LcpGrant.{disc_seen}
use Rattle.ppp_bundle.specs.JoinKey.{are_like, key_seen, may_join, mirrored}
use Rattle.ppp_bundle.specs.Bundles.{Bundles, Member, Peer, control_of, is_known, key_at, member_at}
use Rattle.ppp_bundle.specs.declared.bundle_table.BundleTable.TheInside.{Inside}
use Rattle.ppp_bundle.specs.declared.joined.Joined.{Joined}
use Rattle.ppp_bundle.specs.declared.known.Known.{Known}
use Rattle.ppp_bundle.specs.declared.limits.Limits.{Limits}
use Rattle.ppp_bundle.specs.declared.limits.TheConstants.{CLASSES, MOST_BUNDLES, MOST_LINKS, MOST_PEERS}

pub record IsLimits (n : Limits) : Type 0 where
  pub some_links : 1 ≤ n.links
  pub most_links : n.links ≤ MOST_LINKS
  pub some_bundles : 1 ≤ n.bundles
  pub most_bundles : n.bundles ≤ MOST_BUNDLES
  pub some_peers : 1 ≤ n.peers
  pub most_peers : n.peers ≤ MOST_PEERS

-- a link of the table, and a bundle of it
abbrev pub IsLinkOf : Bundles → ℕ → Type 0
IsLinkOf t l = (1 ≤ l) × (l ≤ t.limits.links)

abbrev pub IsBundleOf : Bundles → ℕ → Type 0
IsBundleOf t b = b < t.limits.bundles

-- what is so of a joined link
pub record IsMemberOf (t : Bundles) (m : Member) : Type 0 where
  pub within : IsBundleOf t m.bundle
  pub may : IsTrue (may_join m.key)
  pub known : IsTrue (is_known m.key.peer.disc t.peers)

-- Two joined links are in one bundle exactly where they have the same peer, and then with like keys.
pub record AreMates (m n : Member) : Type 0 where
  pub together : (m.bundle ≡ n.bundle) ↔ (m.key.peer.disc ≡ n.key.peer.disc)
  pub alike : m.bundle ≡ n.bundle → IsTrue (are_like m.key n.key)

-- each peer is remembered once
abbrev pub AreOnce : List Peer → Type 0
AreOnce [] = Unit {0}
AreOnce (p ∷ ps) = IsFalse (is_known p.disc ps) × AreOnce ps

abbrev pub HasNumbers : Peer → Type 0
HasNumbers p = length p.numbers ≡ CLASSES

-- what is always so of an end's bundles
pub record IsBundles (t : Bundles) : Type 0 where
  pub limits : IsLimits t.limits
  pub places : length t.places ≡ t.limits.links
  pub members : (l : ℕ) (m : Member) → member_at l t ≡ Some m → IsMemberOf t m
  pub mates : (i j : ℕ) (m n : Member) → member_at i t ≡ Some m → member_at j t ≡ Some n → AreMates m n
  pub few : length t.peers ≤ t.limits.peers
  pub once : AreOnce t.peers
  pub numbers : AllByRecursion HasNumbers t.peers

-- A bundle of one end is another's of the other: each link that is joined in one is in both, with the mirrored key.
abbrev pub AreMirrored : ℕ → Bundles → ℕ → Bundles → Type 0
AreMirrored b t c u = (l : ℕ) → 1 ≤ l → key_at b l t ≡ option_map mirrored (key_at c l u)

-- ---- as the code keeps it

abbrev pub joined_seen : Joined → Member
joined_seen j = record { bundle = j.bundle; key = key_seen j.key; marked = j.marked }

abbrev pub known_seen : Known → Peer
known_seen k = record { disc = disc_seen k.disc; numbers = k.numbers }

abbrev pub peers_seen : List Known → List Peer
peers_seen ps = map known_seen ps

abbrev pub place_seen : Option Joined → Option Member
place_seen p = option_map joined_seen p

abbrev pub places_seen : List (Option Joined) → List (Option Member)
places_seen ps = map place_seen ps

abbrev pub bundles_seen : Inside → Bundles
bundles_seen b = record { limits = b.limits; places = places_seen b.places.items; peers = peers_seen b.peers.items }

-- of each bundle its control link
pub record AreControls (controls : List (Option ℕ)) (t : Bundles) : Type 0 where
  pub size : length controls ≡ t.limits.bundles
  pub each : (b : ℕ) → IsBundleOf t b → slice_index_or controls b None ≡ control_of b t

-- Each bundle's control link is kept, and room was taken for all peers.
pub record IsBundleTable (b : Inside) : Type 0 where
  pub sound : IsBundles (bundles_seen b)
  pub controls : AreControls b.controls.items (bundles_seen b)
  pub room : b.limits.peers ≤ vec_capacity b.peers
