-- What BAP sees of a bundle.
use Rattle.std.specs.Prelude.{ℕ, ◌-◌, Bool, true, false, List, [], ◌++◌, length, map, replicate, Option, Some, None, slice_get}
use Rattle.std.specs.Option.{unwrap_or}
use Rattle.ppp_packet.specs.declared.proto.Proto.TheVariants.{Bacp}
use Rattle.ppp_packet.specs.ConfigOption.{ConfigOption}
use Rattle.ppp_options.specs.Number.{number_of}
use Rattle.ppp_options.specs.declared.number.TheConstants.{OCTETS_U32}
use Rattle.ppp_auto.specs.Auto.{Auto, mine_of, peer_of}
use Rattle.ppp_auto.specs.declared.auto_state.AutoState.{AutoState}
use Rattle.ppp_auto.specs.declared.auto_state.AutoState.TheVariants.{Initial, Starting, Closed, Stopped, Closing, Stopping, ReqSent, AckRcvd, AckSent, Opened}
use Rattle.ppp_bacp.specs.BacpTable.{favours}
use Rattle.ppp_bacp.specs.declared.bacp_table.TheConstants.{FAVORED_PEER}
use Rattle.ppp_bap.specs.declared.bundle_view.BundleView.{BundleView}
use Rattle.ppp_bap.specs.declared.bundle_view.TheConstants.{LINKS}
use Rattle.ppp_bundle.specs.Bundles.{control_of, joined_in, marked_in, mask}
use Rattle.ppp_link.specs.Automata.{auto_at}
use Rattle.ppp_link.specs.Link.{Link}
use Rattle.ppp_trunk.specs.Control.{key_in}
use Rattle.ppp_trunk.specs.Trunk.{Trunk}
use Rattle.ppp_trunk.specs.Steps.{is_opened_control}
use Rattle.ppp_station.specs.declared.bap_terms.BapTerms.{BapTerms}

-- BACP is Opened on the control link
abbrev pub is_live : ℕ → Trunk → Bool
is_live b t = is_opened_control t.links (control_of b t.bundles) (Some Bacp)

-- ---- who is favoured there (RFC 2125): whose Favored-Peer number is the lower one

abbrev pub favored_in : Option (List ConfigOption) → ℕ
favored_in list = number_of FAVORED_PEER OCTETS_U32 (unwrap_or list [])

abbrev pub is_favoured_by : Option Auto → Bool
is_favoured_by None = false
is_favoured_by (Some a) = favours (favored_in (mine_of a)) (favored_in (peer_of a))

abbrev pub bacp_of : Option Link → Option Auto
bacp_of None = None
bacp_of (Some k) = auto_at k.automata Bacp

abbrev pub is_favoured_on : List Link → Option ℕ → Bool
is_favoured_on ks None = false
is_favoured_on ks (Some l) = is_favoured_by (bacp_of (slice_get ks (l - 1)))

abbrev pub is_favoured : ℕ → Trunk → Bool
is_favoured b t = is_favoured_on t.links (control_of b t.bundles)

-- ---- links that could be brought up

abbrev pub is_idle_state : AutoState → Bool
is_idle_state Initial = true
is_idle_state Starting = true
is_idle_state Closed = true
is_idle_state Stopped = true
is_idle_state Closing = false
is_idle_state Stopping = false
is_idle_state ReqSent = false
is_idle_state AckRcvd = false
is_idle_state AckSent = false
is_idle_state Opened = false

abbrev pub is_idle_link : Link → Bool
is_idle_link k = is_idle_state k.automata.lcp.state

abbrev pub idle_links : List Link → ℕ
idle_links ks = mask (map is_idle_link ks)

-- ---- the numbers of links, by LCP's two lists

abbrev pub own_number : Link → Option ℕ
own_number k = (key_in k.automata.lcp).mine.link_disc

abbrev pub peer_number : Link → Option ℕ
peer_number k = (key_in k.automata.lcp).peer.link_disc

abbrev pub numbers_of : (Link → Option ℕ) → List Link → List (Option ℕ)
numbers_of number ks = map number ks ++ replicate (LINKS - length ks) None

-- ---- the whole

abbrev pub view_of : ℕ → BapTerms → Trunk → BundleView
view_of b terms t = record {
  bundle = b;
  live = is_live b t;
  favoured = is_favoured b t;
  most = terms.most;
  least = terms.least;
  calls = terms.calls;
  callbacks = terms.callbacks;
  speed = terms.speed;
  joined = joined_in b t.bundles;
  marked = marked_in b t.bundles;
  idle = idle_links t.links;
  own_numbers = numbers_of own_number t.links;
  peer_numbers = numbers_of peer_number t.links;
}
