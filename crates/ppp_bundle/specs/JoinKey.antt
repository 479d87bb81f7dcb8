-- What bundles look at of what the two lists of a link grant (RFC 1990 section 5.1).
use Rattle.std.specs.Prelude.{ℕ, Bool, true, not, ◌&&◌, ◌||◌, ◌==◌, if◌then◌else◌, List, [], ◌∷◌, Option, Some}
use Rattle.std.specs.Bool.{beq}
use Rattle.std.specs.Ordering.{is_eq, is_lt, nat_cmp}
use Rattle.std.specs.Cmp.Lexicographic.{slice_cmp}
use Rattle.ppp_lcp.specs.LcpGrant.{disc_seen}
use Rattle.ppp_lcp.specs.declared.lcp_grant.LcpGrant.{LcpGrant}
use Rattle.ppp_bundle.specs.declared.join_key.JoinKey.{JoinKey}
use Rattle.ppp_bundle.specs.declared.join_key.TheConstants.{UNNUMBERED}

-- what bundles look at of what is granted in one direction
pub record Terms : Type 0 where
  -- the Maximum Received Reconstructed Unit, 0 where it isn't granted
  pub mrru : ℕ
  -- whether headers are short, and the count of classes
  pub short : Bool
  pub classes : ℕ
  -- the endpoint discriminator: its Class, and then the octets of its address
  pub disc : List ℕ
  -- the Link-Discriminator, if it is granted
  pub link_disc : Option ℕ

-- the same in the two directions: what this end was granted, and what its peer was
pub record Key : Type 0 where
  pub mine : Terms
  pub peer : Terms

abbrev pub terms_seen : LcpGrant → Terms
terms_seen g = record { mrru = g.mrru; short = g.short; classes = g.classes; disc = disc_seen g.disc; link_disc = g.link_disc }

abbrev pub key_seen : JoinKey → Key
key_seen k = record { mine = terms_seen k.mine; peer = terms_seen k.peer }

-- the key as the peer has it
abbrev pub mirrored : Key → Key
mirrored k = record { mine = k.peer; peer = k.mine }

-- Discriminators are in the order of their Classes, and then of their addresses as lists of octets.
abbrev pub is_same_disc : List ℕ → List ℕ → Bool
is_same_disc d e = is_eq (slice_cmp nat_cmp d e)

abbrev pub is_lesser_disc : List ℕ → List ℕ → Bool
is_lesser_disc d e = is_lt (slice_cmp nat_cmp d e)

-- the null Class says that there is none
abbrev pub is_null_disc : List ℕ → Bool
is_null_disc [] = true
is_null_disc (class ∷ address) = class == 0

-- the MRRU isn't granted in both directions
abbrev pub lacks_mrru : Key → Bool
lacks_mrru k = (k.mine.mrru == 0) || (k.peer.mrru == 0)

-- a discriminator isn't granted in both directions
abbrev pub lacks_disc : Key → Bool
lacks_disc k = is_null_disc k.mine.disc || is_null_disc k.peer.disc

-- the two ends have the same discriminator
abbrev pub is_of_one_end : Key → Bool
is_of_one_end k = is_same_disc k.mine.disc k.peer.disc

-- a link with that key may be joined
abbrev pub may_join : Key → Bool
may_join k = not (lacks_mrru k) && not (lacks_disc k) && not (is_of_one_end k)

-- links of one bundle have the same MRRU, form of header and count of classes, in each direction
abbrev pub are_like_terms : Terms → Terms → Bool
are_like_terms t u = (t.mrru == u.mrru) && beq t.short u.short && (t.classes == u.classes)

abbrev pub are_like : Key → Key → Bool
are_like k m = are_like_terms k.mine m.mine && are_like_terms k.peer m.peer

-- the senior end is the one with the lesser discriminator
abbrev pub is_senior : Key → Bool
is_senior k = is_lesser_disc k.mine.disc k.peer.disc

-- a link's number by the Link-Discriminators of both ends: the senior's, where both have one
abbrev pub numbered_by : Bool → Option ℕ → Option ℕ → ℕ
numbered_by senior (Some mine) (Some peer) = if senior then mine else peer
numbered_by senior mine peer = UNNUMBERED

abbrev pub number_of : Bool → Key → ℕ
number_of senior k = numbered_by senior k.mine.link_disc k.peer.link_disc
