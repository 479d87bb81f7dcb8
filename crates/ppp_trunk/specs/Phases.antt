-- When the automata of a trunk's links above LCP are Up (RFC 1661 section 3): on a single link those of the network exactly
-- while LCP is Opened, in a bundle all of them on its control link alone.
use Rattle.std.specs.Prelude.{◌≡◌, ◌≢◌, ℕ, ◌+◌, Bool, true, false, ◌&&◌, not, length, Option, Some, None, slice_get}
use Rattle.ppp_auto.specs.Auto.{Auto, is_off, is_opened}
use Rattle.ppp_bundle.specs.BundleTable.{IsBundles}
use Rattle.ppp_bundle.specs.Bundles.{Bundles, Member, bundle_at, control_of, member_at}
use Rattle.ppp_packet.specs.declared.proto.Proto.{Proto}
use Rattle.ppp_packet.specs.declared.proto.Proto.TheVariants.{Lcp}
use Rattle.ppp_link.specs.Automata.{auto_at}
use Rattle.ppp_link.specs.Link.{Link}
use Rattle.ppp_trunk.specs.Control.{is_same_link, key_in}
use Rattle.ppp_trunk.specs.Moves.{goes_with}
use Rattle.ppp_trunk.specs.Trunk.{Trunk, limits_of}

-- ---- on a link

-- an automaton that is configured is beyond Initial and Starting exactly where that is so
abbrev pub IsUpWhere : Bool → Option Auto → Type 0
IsUpWhere up None = Unit {0}
IsUpWhere up (Some a) = is_off a.state ≡ not up

-- whether a control protocol is to be Up on a link in that bundle, or in none
abbrev pub is_up_by : Option ℕ → Proto → ℕ → Bool → Bundles → Bool
is_up_by None p l opened b = goes_with p false && opened
is_up_by (Some i) p l opened b = is_same_link (control_of i b) (Some l)

abbrev pub is_up : Proto → ℕ → Bool → Bundles → Bool
is_up p l opened b = is_up_by (bundle_at l b) p l opened b

-- so it is with each control protocol above LCP
unfoldable pub IsPhased : ℕ → Bundles → Link → Type 0
IsPhased l b k = (p : Proto) → p ≢ Lcp → IsUpWhere (is_up p l (is_opened k.automata.lcp.state) b) (auto_at k.automata p)

-- a link that is joined has LCP Opened, and is joined by what that grants
abbrev pub IsJoinedBy : Option Member → Auto → Type 0
IsJoinedBy None lcp = Unit {0}
IsJoinedBy (Some m) lcp = (is_opened lcp.state ≡ true) × (m.key ≡ key_in lcp)

-- ---- at a trunk

pub record IsTrunkOf (st : Trunk) : Type 0 where
  pub limits : st.bundles.limits ≡ limits_of (length st.links)
  pub bundles : IsBundles st.bundles
  pub joined : (i : ℕ) (k : Link) → slice_get st.links i ≡ Some k → IsJoinedBy (member_at (i + 1) st.bundles) k.automata.lcp
  pub phased : (i : ℕ) (k : Link) → slice_get st.links i ≡ Some k → IsPhased (i + 1) st.bundles k

unfoldable pub IsTrunk : Trunk → Type 0
IsTrunk st = IsTrunkOf st
