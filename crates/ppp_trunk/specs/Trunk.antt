-- One whole end: its links and bundles, and what an event makes of them.
use Rattle.std.specs.Prelude.{◌≡◌, ℕ, zero, suc, ◌+◌, ◌-◌, ◌≤◌, List, [], ◌∷◌, ◌++◌, length, map, Option, Some, None, slice_get}
use Rattle.std.specs.List.{AllByRecursion}
use Rattle.ppp_conf.specs.EndConfig.{EndSettings}
use Rattle.ppp_packet.specs.declared.proto.Proto.{Proto}
use Rattle.ppp_packet.specs.declared.proto.Proto.TheVariants.{Bacp}
use Rattle.ppp_auto.specs.declared.auto_event.AutoEvent.TheVariants.{AdminOpen}
use Rattle.ppp_bundle.specs.Bundles.{Bundles, bundles_begun}
use Rattle.ppp_bundle.specs.declared.limits.Limits.{Limits}
use Rattle.ppp_bundle.specs.declared.limits.TheConstants.{MOST_BUNDLES, MOST_LINKS, MOST_PEERS}
use Rattle.ppp_link.specs.Link.{Fed, Link, event_did, link_begun, link_with}
use Rattle.ppp_link.specs.LinkSettings.{LinkSettings, settings_of}
use Rattle.ppp_link.specs.LinkTables.{LinkTables, tables_seen}
use Rattle.ppp_link.specs.Proto.{nets}
use Rattle.ppp_trunk.specs.StationOut.{Out}
use Rattle.ppp_trunk.specs.Steps.{Done, Happening, LineUp, LineDown, Opens, Closes, TimesOut, Takes, link_does, with_link, works, IsUsed}
use Rattle.ppp_trunk.specs.declared.trunk_event.TrunkEvent.{TrunkEvent}
use Rattle.ppp_trunk.specs.declared.trunk_event.TrunkEvent.TheVariants as event

-- protocols that are to be opened, in turn
unfoldable pub opens_all : List Proto → Link → Link
opens_all [] k = k
opens_all (p ∷ ps) k = opens_all ps (link_with k (event_did k p AdminOpen 0))

-- a link as a trunk begins with it: each control protocol that is configured above LCP is to be opened
abbrev pub link_ready : LinkTables → Link
link_ready t = opens_all (nets ++ Bacp ∷ []) (link_begun t)

-- the settings of links in turn, from that number on
abbrev pub all_settings : ℕ → ℕ → EndSettings → List LinkSettings
all_settings zero number s = []
all_settings (suc more) number s = settings_of number s ∷ all_settings more (number + 1) s

-- a trunk as it begins, of those links
abbrev pub IsReady : Link → Type 0
IsReady k = k ≡ link_ready k.tables

pub record Trunk : Type 0 where
  pub links : List Link
  pub bundles : Bundles

-- the bundles of so many links, at most 8, of at most 256 peers that are remembered
abbrev pub limits_of : ℕ → Limits
limits_of links = record { links = links; bundles = MOST_BUNDLES; peers = MOST_PEERS }

-- a trunk, and what an event sends and tells
pub record Stepped : Type 0 where
  pub trunk : Trunk
  pub out : Out

-- the trunk after the entries of a link's own step were worked off
abbrev pub done_of : Done → ℕ → Stepped
done_of done used = record {
  trunk = record { links = done.links; bundles = done.bundles };
  out = record { entries = done.out; used = used };
}

abbrev pub worked : ℕ → Fed → Trunk → ℕ → Done
worked l fed st word = works l word fed.out (record { links = with_link l fed.link st.links; bundles = st.bundles; out = [] })

abbrev pub stepped_by : Happening → ℕ → Trunk → ℕ → Option Link → Stepped
stepped_by what l st word None = record { trunk = st; out = record { entries = []; used = 0 } }
stepped_by what l st word (Some k) = let fed = link_does what k word in done_of (worked l fed st word) fed.used

-- something happens to a link
abbrev pub on_link : Happening → ℕ → Trunk → ℕ → Stepped
on_link what l st word = stepped_by what l st word (slice_get st.links (l - 1))

-- the trunk as it began
abbrev pub trunk_anew : Trunk → Trunk
trunk_anew st = record { links = map (λ k. link_ready k.tables) st.links; bundles = bundles_begun st.bundles.limits }

abbrev pub trunk_does : TrunkEvent → Trunk → ℕ → Stepped
trunk_does (event.Up l) st word = on_link LineUp l st word
trunk_does (event.Down l) st word = on_link LineDown l st word
trunk_does (event.AdminOpen l p) st word = on_link (Opens p) l st word
trunk_does (event.AdminClose l p) st word = on_link (Closes p) l st word
trunk_does (event.Timeout l p) st word = on_link (TimesOut p) l st word
trunk_does (event.Bytes l octets) st word = on_link (Takes octets.now) l st word
trunk_does event.Reset st word = record { trunk = trunk_anew st; out = record { entries = []; used = 0 } }

-- the event is of one of that many links
abbrev pub IsOfLink : ℕ → ℕ → Type 0
IsOfLink links l = (1 ≤ l) × (l ≤ links)

abbrev pub IsOfLinks : TrunkEvent → ℕ → Type 0
IsOfLinks (event.Up l) links = IsOfLink links l
IsOfLinks (event.Down l) links = IsOfLink links l
IsOfLinks (event.AdminOpen l p) links = IsOfLink links l
IsOfLinks (event.AdminClose l p) links = IsOfLink links l
IsOfLinks (event.Timeout l p) links = IsOfLink links l
IsOfLinks (event.Bytes l octets) links = IsOfLink links l
IsOfLinks event.Reset links = Unit {0}

-- what an event used of the octets that it brought, and 0 where it brought none
abbrev pub IsUsedOf : TrunkEvent → ℕ → Type 0
IsUsedOf (event.Bytes l octets) used = IsUsed (Takes octets.now) used
IsUsedOf ev used = used ≡ 0

-- what its links negotiate, and the octets that they keep of unfinished frames
abbrev pub settings_in : List Link → List LinkSettings
settings_in links = map (λ k. tables_seen k.tables) links

abbrev pub held_in : List Link → ℕ
held_in [] = 0
held_in (k ∷ ks) = length k.deframer.standing.plain + held_in ks

-- a trunk as it begins
pub record IsBegun (st : Trunk) : Type 0 where
  pub some : 1 ≤ length st.links
  pub most : length st.links ≤ MOST_LINKS
  pub ready : AllByRecursion IsReady st.links
  pub bundles : st.bundles ≡ bundles_begun (limits_of (length st.links))

-- and by an end's settings
pub record BeginsBy (s : EndSettings) (st : Trunk) : Type 0 where
  pub begun : IsBegun st
  pub settings : settings_in st.links ≡ all_settings s.links 1 s
