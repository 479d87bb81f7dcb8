-- One whole end, and what an event makes of it.
use Rattle.std.specs.Prelude.{◌≡◌, ◌<◌, ℕ, Bool, true, List, [], Option, Some, None, ⊤}
use Rattle.ppp_conf.specs.EndConfig.{EndSettings}
use Rattle.ppp_bap.specs.Answer.{IfAsked}
use Rattle.ppp_bap.specs.Requests.{AreRequests, Requests, asked_of, requests_begun}
use Rattle.ppp_bap.specs.declared.bap_ask.BapAsk.{BapAsk}
use Rattle.ppp_bap.specs.declared.bap_ask.BapAsk.TheVariants as ask
use Rattle.ppp_bap.specs.declared.call_ask.CallAsk.{CallAsk}
use Rattle.ppp_bundle.specs.Bundles.{Bundles, bundle_at}
use Rattle.ppp_bundle.specs.declared.limits.TheConstants.{MOST_BUNDLES}
use Rattle.ppp_trunk.specs.Phases.{IsTrunk}
use Rattle.ppp_trunk.specs.Trunk.{BeginsBy as LinksBeginBy, IsOfLink, Trunk, on_link, trunk_anew}
use Rattle.ppp_trunk.specs.StationOut.{Out}
use Rattle.ppp_trunk.specs.Steps.{Happening, IsUsed, LineUp, LineDown, Opens, Closes, TimesOut, Takes}
use Rattle.ppp_station.specs.BapTerms.{terms_of}
use Rattle.ppp_station.specs.Waits.{keeps_link}
use Rattle.ppp_station.specs.Steps.{Done, asked_for, asks, bap_packet, bundle_timed, links_do, takes_bap, tells, times}
use Rattle.ppp_station.specs.declared.bap_terms.BapTerms.{BapTerms}
use Rattle.ppp_station.specs.declared.station_event.StationEvent.{StationEvent}
use Rattle.ppp_station.specs.declared.station_event.StationEvent.TheVariants as event

pub record Station : Type 0 where
  pub trunk : Trunk
  pub requests : Requests
  pub terms : BapTerms

-- the same with the policy that decides over its peers' calls
pub record Whole (F : Type 0) : Type 0 where
  pub policy : F
  pub station : Station

pub record Stepped : Type 0 where
  pub station : Station
  pub out : Out

abbrev pub station_at : Trunk → Requests → BapTerms → Station
station_at t q terms = record { trunk = t; requests = q; terms = terms }

abbrev pub begins : Station → Done
begins st = record { trunk = st.trunk; requests = st.requests; out = [] }

abbrev pub stepped : BapTerms → Done → ℕ → Stepped
stepped terms done used = record {
  station = record { trunk = done.trunk; requests = done.requests; terms = terms };
  out = record { entries = done.out; used = used };
}

-- the links do a step
abbrev pub moves : Happening → ℕ → Station → ℕ → Stepped
moves what l st word = stepped st.terms (links_do what l word (begins st)) 0

-- octets come on a link: the links do a step, and then a packet of BAP is taken that came by it
abbrev pub hears : Bool → ℕ → List ℕ → Station → ℕ → Stepped
hears allowed l octets st word =
    let t = on_link (Takes octets) l st.trunk word in
    stepped st.terms (takes_bap allowed st.terms l word (bap_packet t.out.entries) (links_do (Takes octets) l word (begins st))) t.out.used

-- what the policy is asked for it, if it is
abbrev pub asked_for_octets : ℕ → List ℕ → Station → ℕ → Option CallAsk
asked_for_octets l octets st word =
    asked_for st.terms l (bap_packet (on_link (Takes octets) l st.trunk word).out.entries) (links_do (Takes octets) l word (begins st))

-- the peer of a link's bundle is asked, or told how a call went
abbrev pub asks_peer : ℕ → BapAsk → Station → ℕ → Stepped
asks_peer l what st word = stepped st.terms (asks st.terms (bundle_at l st.trunk.bundles) what word (begins st)) 0

abbrev pub tells_peer : ℕ → ℕ → Station → ℕ → Stepped
tells_peer l status st word = stepped st.terms (tells st.terms (bundle_at l st.trunk.bundles) status word (begins st)) 0

-- the timer of BAP fires at a bundle's control link
abbrev pub tries_again : ℕ → Station → ℕ → Stepped
tries_again l st word = stepped st.terms (times (bundle_timed l st.trunk) word (begins st)) 0

-- the station as it began
abbrev pub station_anew : Station → Station
station_anew st = record { trunk = trunk_anew st.trunk; requests = requests_begun; terms = st.terms }

abbrev pub station_does : Bool → StationEvent → Station → ℕ → Stepped
station_does allowed (event.Up l) st word = moves LineUp l st word
station_does allowed (event.Down l) st word = moves LineDown l st word
station_does allowed (event.AdminOpen l p) st word = moves (Opens p) l st word
station_does allowed (event.AdminClose l p) st word = moves (Closes p) l st word
station_does allowed (event.Timeout l p) st word = moves (TimesOut p) l st word
station_does allowed (event.BapTimeout l) st word = tries_again l st word
station_does allowed (event.Bytes l octets) st word = hears allowed l octets.now st word
station_does allowed (event.Ask l what) st word = asks_peer l what st word
station_does allowed (event.Status l status) st word = tells_peer l status st word
station_does allowed event.Reset st word = record { station = station_anew st; out = record { entries = []; used = 0 } }

-- what the policy is asked in it, if it is
abbrev pub policy_asked : StationEvent → Station → ℕ → Option CallAsk
policy_asked (event.Bytes l octets) st word = asked_for_octets l octets.now st word
policy_asked ev st word = None

-- a packet of BAP is taken that came on a link, as it follows from what the policy answers, where it is asked
pub record TakesBap (says : CallAsk → Bool → Type 0) (terms : BapTerms) (l word : ℕ) (packet : Option (List ℕ)) (old new : Done) : Type 0 where
  pub allowed : Bool
  pub said : IfAsked says (asked_for terms l packet old) allowed
  pub done : new ≡ takes_bap allowed terms l word packet old

-- the event is the station's step for what the policy answers, where it is asked
pub record Steps (says : CallAsk → Bool → Type 0) (ev : StationEvent) (word : ℕ) (old new : Station) (out : Out) : Type 0 where
  pub allowed : Bool
  pub said : IfAsked says (policy_asked ev old word) allowed
  pub station : new ≡ (station_does allowed ev old word).station
  pub sent : out ≡ (station_does allowed ev old word).out

-- the event is of one of that many links, and so is a link that is to be dropped
abbrev pub IsOfAsk : BapAsk → ℕ → Type 0
IsOfAsk ask.Call links = ⊤
IsOfAsk ask.Callback links = ⊤
IsOfAsk (ask.Drop l) links = IsOfLink links l

abbrev pub IsOfLinks : StationEvent → ℕ → Type 0
IsOfLinks (event.Up l) links = IsOfLink links l
IsOfLinks (event.Down l) links = IsOfLink links l
IsOfLinks (event.AdminOpen l p) links = IsOfLink links l
IsOfLinks (event.AdminClose l p) links = IsOfLink links l
IsOfLinks (event.Timeout l p) links = IsOfLink links l
IsOfLinks (event.BapTimeout l) links = IsOfLink links l
IsOfLinks (event.Bytes l octets) links = IsOfLink links l
IsOfLinks (event.Ask l what) links = IsOfLink links l × IsOfAsk what links
IsOfLinks (event.Status l status) links = IsOfLink links l
IsOfLinks event.Reset links = ⊤

-- what an event used of the octets that it brought, and 0 where it brought none
abbrev pub IsUsedOf : StationEvent → ℕ → Type 0
IsUsedOf (event.Bytes l octets) used = IsUsed (Takes octets.now) used
IsUsedOf ev used = used ≡ 0

-- a station as it begins by an end's settings: nothing waits
pub record BeginsBy (s : EndSettings) (st : Station) : Type 0 where
  pub links : LinksBeginBy s st.trunk
  pub requests : st.requests ≡ requests_begun
  pub terms : st.terms ≡ terms_of s

-- a link that is to be dropped is joined, while the request waits
abbrev pub IsJoinedAsk : ℕ → Option BapAsk → Bundles → Type 0
IsJoinedAsk b None t = ⊤
IsJoinedAsk b (Some what) t = keeps_link b what t ≡ true

-- what always holds of a station
pub record IsStation (st : Station) : Type 0 where
  pub trunk : IsTrunk st.trunk
  pub requests : AreRequests st.requests
  pub joined : (b : ℕ) → b < MOST_BUNDLES → IsJoinedAsk b (asked_of b st.requests) st.trunk.bundles
