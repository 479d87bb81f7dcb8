-- With a policy that answers as the one that comes with the program, an event is one step.
use Rattle.std.proofs.Common.{◌≡◌, ℕ, Bool, false, List, refl, ap, ◌∙◌}
use Rattle.std.specs.Prelude.{Option, Some, None}
use Rattle.ppp_bap.specs.Answer.{IfAsked}
use Rattle.ppp_bap.specs.declared.call_ask.CallAsk.{CallAsk}
use Rattle.ppp_trunk.specs.StationOut.{Out}
use Rattle.ppp_station.specs.Shipped.{IsShippedAs, allows_up_to, answered, shipped_does}
use Rattle.ppp_station.specs.Station.{Station, Stepped, Steps, asked_for_octets, hears, policy_asked, station_does}
use Rattle.ppp_station.specs.declared.station_event.StationEvent.{StationEvent}
use Rattle.ppp_station.specs.declared.station_event.StationEvent.TheVariants as event
use Rattle.ppp_station.proofs.CountLemmas.{hears-unasked}

hears-shipped : (says : CallAsk → Bool → Type 0) (most : ℕ) (allowed : Bool) (l : ℕ) (octets : List ℕ) (st : Station) (word : ℕ) → IsShippedAs says most →
    IfAsked says (asked_for_octets l octets st word) allowed → hears allowed l octets st word ≡ hears (answered (allows_up_to most) (asked_for_octets l octets st word)) l octets st word
hears-shipped says most allowed l octets st word known said = by (asked_for_octets l octets st word) refl said
  where
    by : (o : Option CallAsk) → asked_for_octets l octets st word ≡ o → IfAsked says o allowed → hears allowed l octets st word ≡ hears (answered (allows_up_to most) o) l octets st word
    by None e said = hears-unasked allowed false l octets st word e
    by (Some question) e said = ap (λ a. hears a l octets st word) (known question allowed said)

does-shipped : (says : CallAsk → Bool → Type 0) (most : ℕ) (allowed : Bool) (ev : StationEvent) (st : Station) (word : ℕ) → IsShippedAs says most →
    IfAsked says (policy_asked ev st word) allowed → station_does allowed ev st word ≡ shipped_does most ev st word
does-shipped says most allowed (event.Up l) st word known said = refl
does-shipped says most allowed (event.Down l) st word known said = refl
does-shipped says most allowed (event.AdminOpen l p) st word known said = refl
does-shipped says most allowed (event.AdminClose l p) st word known said = refl
does-shipped says most allowed (event.Timeout l p) st word known said = refl
does-shipped says most allowed (event.BapTimeout l) st word known said = refl
does-shipped says most allowed (event.Bytes l octets) st word known said = hears-shipped says most allowed l octets.now st word known said
does-shipped says most allowed (event.Ask l what) st word known said = refl
does-shipped says most allowed (event.Status l status) st word known said = refl
does-shipped says most allowed event.Reset st word known said = refl

pub steps-shipped : (says : CallAsk → Bool → Type 0) (most : ℕ) (ev : StationEvent) (word : ℕ) (old new : Station) (out : Out) → IsShippedAs says most → Steps says ev word old new out →
    (new ≡ (shipped_does most ev old word).station) × (out ≡ (shipped_does most ev old word).out)
steps-shipped says most ev word old new out known did =
    let same = does-shipped says most did.allowed ev old word known did.said in
    (did.station ∙ ap (λ (s : Stepped). s.station) same, did.sent ∙ ap (λ (s : Stepped). s.out) same)
