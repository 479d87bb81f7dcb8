-- What a link is told that asks to join, and the table after that: this project's rule over the options of RFC 1990 sections
-- 5.1.1 to 5.1.3.
use Rattle.std.specs.Prelude.{ℕ, zero, suc, ◌+◌, Bool, false, not, ◌&&◌, nat_le, if◌then◌else◌, List, length, map, Option, Some, None}
use Rattle.ppp_bundle.specs.JoinKey.{Key, are_like, is_of_one_end, is_same_disc, lacks_disc, lacks_mrru}
use Rattle.ppp_bundle.specs.Bundles.{Bundles, Member, first_some, has_link, is_known, remembered, with_place}
use Rattle.ppp_bundle.specs.declared.join.Join.{Join}
use Rattle.ppp_bundle.specs.declared.join.Join.TheVariants.{First, Added, Single}
use Rattle.ppp_bundle.specs.declared.join.SingleWhy.TheVariants.{NoMrru, NoDisc, SameDisc, Unlike, PeersFull, BundlesFull}

-- a joined link whose peer has that discriminator, and the first of them
abbrev pub with_peer : List ℕ → Option Member → Option Member
with_peer disc None = None
with_peer disc (Some m) = if is_same_disc m.key.peer.disc disc then Some m else None

abbrev pub member_of : List ℕ → List (Option Member) → Option Member
member_of disc ps = first_some (map (with_peer disc) ps)

abbrev pub member_with : List ℕ → Bundles → Option Member
member_with disc t = member_of disc t.places

-- of that many bundles, from bundle b on, the first without a link
abbrev pub free_from : ℕ → ℕ → Bundles → Option ℕ
free_from zero b t = None
free_from (suc more) b t = if has_link b t then free_from more (b + 1) t else Some b

abbrev pub free_bundle : Bundles → Option ℕ
free_bundle t = free_from t.limits.bundles 0 t

-- no further peer is remembered
abbrev pub is_full_for : List ℕ → Bundles → Bool
is_full_for disc t = not (is_known disc t.peers) && nat_le t.limits.peers (length t.peers)

-- to a new bundle
abbrev pub begin_at : Option ℕ → Bundles → Join
begin_at None t = Single (BundlesFull t.limits.bundles)
begin_at (Some b) t = First b

-- to the bundle of the peer, where there is one
abbrev pub join_to : Option Member → Key → Bundles → Join
join_to (Some m) k t = if are_like m.key k then Added m.bundle else Single Unlike
join_to None k t = if is_full_for k.peer.disc t then Single (PeersFull t.limits.peers) else begin_at (free_bundle t) t

abbrev pub join_answer : Key → Bundles → Join
join_answer k t =
    if lacks_mrru k then Single NoMrru
    else if lacks_disc k then Single NoDisc
    else if is_of_one_end k then Single SameDisc
    else join_to (member_with k.peer.disc t) k t

-- the table after a link joined a bundle: it isn't marked, and its peer is remembered
abbrev pub with_member : ℕ → Key → ℕ → Bundles → Bundles
with_member l k b t =
    let joined : Bundles = with_place l (Some (record { bundle = b; key = k; marked = false })) t in
    record joined { peers = remembered k.peer.disc t.peers }

-- the bundle that a link joined, if it did
abbrev pub joined_to : Join → Option ℕ
joined_to (First b) = Some b
joined_to (Added b) = Some b
joined_to (Single why) = None

abbrev pub joined_by : Join → ℕ → Key → Bundles → Bundles
joined_by (First b) l k t = with_member l k b t
joined_by (Added b) l k t = with_member l k b t
joined_by (Single why) l k t = t

-- the table after a link asked to join
abbrev pub joined_as : ℕ → Key → Bundles → Bundles
joined_as l k t = joined_by (join_answer k t) l k t
