-- A bundle as BAP sees it at one moment.
use Rattle.std.specs.Prelude.{ℕ, ◌-◌, max, Bool, false, not, ◌&&◌, ◌==◌, nat_le, nat_lt, if◌then◌else◌, slice_index_or, Option, Some, None}
use Rattle.ppp_bap.specs.LinkSet.{count_links, has_link, least_link, some_link}
use Rattle.ppp_bap.specs.declared.bundle_view.BundleView.{BundleView}

-- its links: the joined ones, those of them that the peer was promised to drop, and those that could be brought up
abbrev pub is_joined : BundleView → ℕ → Bool
is_joined v l = has_link v.joined l

abbrev pub is_marked : BundleView → ℕ → Bool
is_marked v l = has_link v.marked l

abbrev pub is_idle : BundleView → ℕ → Bool
is_idle v l = has_link v.idle l

abbrev pub joined_count : BundleView → ℕ
joined_count v = count_links (is_joined v)

-- the least idle link, where this end wants another one
abbrev pub spare_link : BundleView → Option ℕ
spare_link v = if nat_le v.most (joined_count v) then None else least_link (is_idle v)

-- the joined and unmarked links other than one
abbrev pub stays_beside : ℕ → BundleView → ℕ → Bool
stays_beside l v k = not (k == l) && (is_joined v k && not (is_marked v k))

abbrev pub staying_count : ℕ → BundleView → ℕ
staying_count l v = count_links (stays_beside l v)

abbrev pub has_staying : ℕ → BundleView → Bool
has_staying l v = some_link (stays_beside l v)

-- fewer stay than this end wants, or none
abbrev pub leaves_too_few : ℕ → BundleView → Bool
leaves_too_few l v = nat_lt (staying_count l v) (max 1 v.least)

-- the numbers of a link (RFC 2125, Link-Discriminators)
abbrev pub own_number : ℕ → BundleView → Option ℕ
own_number l v = slice_index_or v.own_numbers (l - 1) None

abbrev pub peer_number : ℕ → BundleView → Option ℕ
peer_number l v = slice_index_or v.peer_numbers (l - 1) None

abbrev pub is_number : ℕ → Option ℕ → Bool
is_number n None = false
is_number n (Some m) = m == n

abbrev pub is_joined_as : ℕ → BundleView → ℕ → Bool
is_joined_as n v l = is_joined v l && is_number n (own_number l v)

-- the least joined link with that number of this end
abbrev pub link_numbered : ℕ → BundleView → Option ℕ
link_numbered n v = least_link (is_joined_as n v)
