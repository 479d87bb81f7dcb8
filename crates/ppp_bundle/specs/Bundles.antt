-- An end's bundles: which links are joined in which, and the peers that are remembered. A peer is known by its
-- Endpoint Discriminator (RFC 1990 section 5.1.3); the rest is this project's rule.
use Rattle.std.specs.Prelude.{ℕ, ◌+◌, ◌-◌, ◌*◌, Bool, true, false, not, ◌&&◌, ◌==◌, nat_le, if◌then◌else◌, List, [], ◌∷◌, ◌++◌, map, replicate, slice_index_or, slice_set, Option, Some, None, is_some}
use Rattle.std.specs.List.{list_any}
use Rattle.std.specs.Option.{option_map, option_or}
use Rattle.ppp_bundle.specs.JoinKey.{Key, is_same_disc, is_senior, number_of}
use Rattle.ppp_bundle.specs.declared.control.Candidate.{Candidate}
use Rattle.ppp_bundle.specs.declared.left.Left.{Left}
use Rattle.ppp_bundle.specs.declared.limits.Limits.{Limits}
use Rattle.ppp_bundle.specs.declared.limits.TheConstants.{CLASSES}

-- a joined link: the bundle that it is joined in, what it was granted, and whether it is marked
pub record Member : Type 0 where
  pub bundle : ℕ
  pub key : Key
  pub marked : Bool

-- a remembered peer: its discriminator, and its sending numbers class by class
pub record Peer : Type 0 where
  pub disc : List ℕ
  pub numbers : List ℕ

pub record Bundles : Type 0 where
  pub limits : Limits
  -- at place i what link i + 1 is joined as, if it is joined
  pub places : List (Option Member)
  -- the peers in the order of their first joins
  pub peers : List Peer

-- before the first join
abbrev pub bundles_begun : Limits → Bundles
bundles_begun n = record { limits = n; places = replicate n.links None; peers = [] }

-- ---- links

-- what a link is joined as
abbrev pub member_at : ℕ → Bundles → Option Member
member_at l t = slice_index_or t.places (l - 1) None

-- the bundle that a link is joined in
abbrev pub bundle_at : ℕ → Bundles → Option ℕ
bundle_at l t = option_map (λ m. m.bundle) (member_at l t)

-- another comes to a link's place
abbrev pub with_place : ℕ → Option Member → Bundles → Bundles
with_place l p t = record t { places = slice_set t.places (l - 1) p }

-- the table after a link left
abbrev pub left : ℕ → Bundles → Bundles
left l t = with_place l None t

-- the table after a joined link was marked
abbrev pub with_mark : Member → Member
with_mark m = record m { marked = true }

abbrev pub marked_at : ℕ → Bundles → Bundles
marked_at l t = with_place l (option_map with_mark (member_at l t)) t

-- ---- the links of a bundle

-- the key of a link that is joined in a bundle
abbrev pub key_in : ℕ → Option Member → Option Key
key_in b None = None
key_in b (Some m) = if m.bundle == b then Some m.key else None

-- the key of a link, if it is joined in that bundle
abbrev pub key_at : ℕ → ℕ → Bundles → Option Key
key_at b l t = key_in b (member_at l t)

-- link by link the keys of a bundle
abbrev pub keys_of : ℕ → List (Option Member) → List (Option Key)
keys_of b ps = map (key_in b) ps

abbrev pub keys_in : ℕ → Bundles → List (Option Key)
keys_in b t = keys_of b t.places

abbrev pub has_link : ℕ → Bundles → Bool
has_link b t = list_any is_some (keys_in b t)

-- what a link left, if it was joined
abbrev pub left_as : ℕ → Bundles → Option Left
left_as l t = option_map (λ b. record { bundle = b; last = not (has_link b (left l t)) }) (bundle_at l t)

-- a set of links as a number: its bit l - 1 stands for link l
abbrev pub bit : Bool → ℕ
bit false = 0
bit true = 1

abbrev pub mask : List Bool → ℕ
mask [] = 0
mask (x ∷ xs) = bit x + 2 * mask xs

abbrev pub joined_mask : ℕ → List (Option Member) → ℕ
joined_mask b ps = mask (map (λ p. is_some (key_in b p)) ps)

abbrev pub joined_in : ℕ → Bundles → ℕ
joined_in b t = joined_mask b t.places

abbrev pub is_marked_in : ℕ → Option Member → Bool
is_marked_in b None = false
is_marked_in b (Some m) = (m.bundle == b) && m.marked

abbrev pub marked_mask : ℕ → List (Option Member) → ℕ
marked_mask b ps = mask (map (is_marked_in b) ps)

abbrev pub marked_in : ℕ → Bundles → ℕ
marked_in b t = marked_mask b t.places

-- ---- the control link

-- the first that is there
abbrev pub first_some : {A : Type 0} → List (Option A) → Option A
first_some [] = None
first_some (x ∷ xs) = option_or x (first_some xs)

-- the key of a bundle's first link
abbrev pub first_key_of : ℕ → List (Option Member) → Option Key
first_key_of b ps = first_some (keys_of b ps)

abbrev pub first_key : ℕ → Bundles → Option Key
first_key b t = first_key_of b t.places

-- whether this end is the senior one, by the first link's key
abbrev pub is_senior_by : Option Key → Bool
is_senior_by None = false
is_senior_by (Some k) = is_senior k

-- a link of a bundle with its number
abbrev pub numbered : Bool → ℕ → Option Key → Option Candidate
numbered senior l None = None
numbered senior l (Some k) = Some (record { number = number_of senior k; link = l })

-- the one with the lesser number, and the first of two with the same
abbrev pub first_of : Option Candidate → Option Candidate → Option Candidate
first_of None d = d
first_of (Some c) None = Some c
first_of (Some c) (Some d) = if nat_le c.number d.number then Some c else Some d

-- of the links of a bundle, from link l on, the one with the least number
abbrev pub least_from : Bool → ℕ → List (Option Key) → Option Candidate
least_from senior l [] = None
least_from senior l (k ∷ ks) = first_of (numbered senior l k) (least_from senior (l + 1) ks)

-- the control link of a bundle is the one with the least number, by the senior end
abbrev pub control_by : List (Option Key) → Option ℕ
control_by ks = option_map (λ c. c.link) (least_from (is_senior_by (first_some ks)) 1 ks)

abbrev pub control_of : ℕ → Bundles → Option ℕ
control_of b t = control_by (keys_in b t)

-- ---- the peers

abbrev pub no_numbers : List ℕ
no_numbers = replicate CLASSES 0

-- whether a peer is remembered
abbrev pub is_of : List ℕ → Peer → Bool
is_of disc p = is_same_disc p.disc disc

abbrev pub is_known : List ℕ → List Peer → Bool
is_known disc peers = list_any (is_of disc) peers

abbrev pub remembered : List ℕ → List Peer → List Peer
remembered disc peers = if is_known disc peers then peers else peers ++ record { disc = disc; numbers = no_numbers } ∷ []

-- the discriminator of a bundle's peer
abbrev pub disc_by : Option Key → List ℕ
disc_by None = []
disc_by (Some k) = k.peer.disc

abbrev pub peer_of : ℕ → Bundles → List ℕ
peer_of b t = disc_by (first_key b t)

-- the sending numbers that are kept for a peer
abbrev pub numbers_for : List ℕ → List Peer → List ℕ
numbers_for disc [] = no_numbers
numbers_for disc (p ∷ ps) = if is_of disc p then p.numbers else numbers_for disc ps

abbrev pub numbers_of : ℕ → Bundles → List ℕ
numbers_of b t = numbers_for (peer_of b t) t.peers

-- the table after other sending numbers were kept for a bundle's peer
abbrev pub renumbered : List ℕ → List ℕ → List Peer → List Peer
renumbered disc numbers [] = []
renumbered disc numbers (p ∷ ps) =
    if is_of disc p then record p { numbers = numbers } ∷ ps else p ∷ renumbered disc numbers ps

abbrev pub with_numbers : ℕ → List ℕ → Bundles → Bundles
with_numbers b numbers t = record t { peers = renumbered (peer_of b t) numbers t.peers }
