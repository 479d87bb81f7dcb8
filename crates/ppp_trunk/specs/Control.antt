-- How the control protocols above LCP follow the control link of a bundle: on a single link they are Up while LCP is Opened
-- there (RFC 1661 section 3), in a bundle on its control link alone, and BACP with them (RFC 2125).
use Rattle.std.specs.Prelude.{ℕ, Bool, true, false, ◌==◌, if◌then◌else◌, List, [], ◌∷◌, ◌++◌, Option, Some, None}
use Rattle.std.specs.Option.{unwrap_or}
use Rattle.ppp_packet.specs.ConfigOption.{ConfigOption}
use Rattle.ppp_options.specs.declared.number.TheConstants.{OCTETS_U16}
use Rattle.ppp_lcp.specs.LcpGrant.{count_by, granted, granted_disc, granted_form, is_short}
use Rattle.ppp_lcp.specs.declared.lcp_kind.LcpKind.TheVariants as kind
use Rattle.ppp_auto.specs.Auto.{Auto, mine_of, peer_of}
use Rattle.ppp_bundle.specs.Bundles.{Bundles, bundle_at, control_of, left}
use Rattle.ppp_bundle.specs.JoinKey.{Key, Terms}
use Rattle.ppp_bundle.specs.Joining.{join_answer, joined_as}
use Rattle.ppp_bundle.specs.declared.join.Join.{Join}
use Rattle.ppp_bundle.specs.declared.join.Join.TheVariants.{First, Added, Single}

-- ---- what LCP grants

abbrev pub terms_in : List ConfigOption → Terms
terms_in list = record {
  mrru = unwrap_or (granted kind.Mrru OCTETS_U16 list) 0;
  short = is_short list;
  classes = count_by (granted_form list);
  disc = granted_disc list;
  link_disc = granted kind.LinkDisc OCTETS_U16 list;
}

-- by the own list, and by the peer's; nothing where LCP has none
abbrev pub key_in : Auto → Key
key_in lcp = record { mine = terms_in (unwrap_or (mine_of lcp) []); peer = terms_in (unwrap_or (peer_of lcp) []) }

-- ---- control protocols that go Up or Down together

-- those of the network on a link, and BACP with them where that is said
pub record Run : Type 0 where
  pub link : ℕ
  pub on : Bool
  pub bacp : Bool

-- on a single link
abbrev pub single : Bool → ℕ → List Run
single on l = record { link = l; on = on; bacp = false } ∷ []

-- on the control link of a bundle, if it has one
abbrev pub control_run : Bool → Option ℕ → List Run
control_run on None = []
control_run on (Some l) = record { link = l; on = on; bacp = true } ∷ []

abbrev pub is_same_link : Option ℕ → Option ℕ → Bool
is_same_link None None = true
is_same_link (Some l) (Some m) = l == m
is_same_link l m = false

-- The control link changes: they go Down on the old one before they go Up on the new one.
abbrev pub moves : Option ℕ → Option ℕ → List Run
moves old new = if is_same_link old new then [] else control_run false old ++ control_run true new

-- ---- what LCP's signals cause

-- the bundles then, and which control protocols go Up and Down, in order
pub record Moved : Type 0 where
  pub bundles : Bundles
  pub runs : List Run

-- LCP came to be Opened: the link joins a bundle, or it is single.
abbrev pub joined_runs : ℕ → Join → Bundles → Bundles → List Run
joined_runs l (First i) old new = moves (control_of i old) (control_of i new)
joined_runs l (Added i) old new = moves (control_of i old) (control_of i new)
joined_runs l (Single why) old new = single true l

unfoldable pub comes : ℕ → Key → Bundles → Moved
comes l key b = let new = joined_as l key b in record { bundles = new; runs = joined_runs l (join_answer key b) b new }

-- LCP left Opened: they go Down on the link, then it leaves its bundle, and the control link is chosen anew.
abbrev pub left_runs : ℕ → Option ℕ → Bundles → Bundles → List Run
left_runs l None old new = single false l
left_runs l (Some i) old new = control_run false (Some l) ++ moves (control_of i old) (control_of i new)

unfoldable pub goes : ℕ → Bundles → Moved
goes l b = let new = left l b in record { bundles = new; runs = left_runs l (bundle_at l b) b new }
