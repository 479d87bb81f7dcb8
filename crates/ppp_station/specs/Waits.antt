-- Which requests wait on behind a step of an end's links (after RFC 2125).
use Rattle.std.specs.Prelude.{◌≡◌, ◌<◌, ℕ, zero, suc, ◌+◌, Bool, true, ◌&&◌, if◌then◌else◌, List, Option, Some, None, slice_get}
use Rattle.ppp_bap.specs.Requests.{Requests, asked_of, wait_ended}
use Rattle.ppp_bap.specs.declared.bap_ask.BapAsk.{BapAsk}
use Rattle.ppp_bap.specs.declared.bap_ask.BapAsk.TheVariants as ask
use Rattle.ppp_bundle.specs.Bundles.{Bundles, bundle_at, control_of}
use Rattle.ppp_bundle.specs.declared.limits.TheConstants.{MOST_BUNDLES}
use Rattle.ppp_trunk.specs.Control.{is_same_link}
use Rattle.ppp_trunk.specs.Trunk.{Trunk}
use Rattle.ppp_station.specs.View.{is_live}

-- a link that is to be dropped is joined in the bundle
abbrev pub keeps_link : ℕ → BapAsk → Bundles → Bool
keeps_link b ask.Call t = true
keeps_link b ask.Callback t = true
keeps_link b (ask.Drop l) t = is_same_link (bundle_at l t) (Some b)

-- A request waits on while the bundle keeps its control link, BACP is Opened there, and a link that is to be dropped stays joined.
abbrev pub waits_on : ℕ → BapAsk → Bundles → Trunk → Bool
waits_on b what before now =
    is_same_link (control_of b now.bundles) (control_of b before) && (is_live b now && keeps_link b what now.bundles)

abbrev pub settled_by : ℕ → Option BapAsk → Bundles → Trunk → Requests → Requests
settled_by b None before now q = q
settled_by b (Some what) before now q = if waits_on b what before now then q else wait_ended b q

-- so many bundles, one after the other, from that one on
unfoldable pub settled_from : ℕ → ℕ → Bundles → Trunk → Requests → Requests
settled_from zero b before now q = q
settled_from (suc more) b before now q = settled_from more (b + 1) before now (settled_by b (asked_of b q) before now q)

abbrev pub settled : Bundles → Trunk → Requests → Requests
settled before now q = settled_from MOST_BUNDLES 0 before now q

-- the control links of all bundles
abbrev pub AreControlsOf : Bundles → List (Option ℕ) → Type 0
AreControlsOf t controls = (i : ℕ) → i < MOST_BUNDLES → slice_get controls i ≡ Some (control_of i t)
