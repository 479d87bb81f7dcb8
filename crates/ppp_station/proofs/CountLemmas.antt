-- A station's steps keep how many links it has; and where its policy isn't asked, it doesn't matter what that would say.
use Rattle.std.proofs.Common.{◌≡◌, ℕ, Bool, false, List, [], ◌∷◌, length, refl, ap, ◌∙◌}
use Rattle.std.specs.Prelude.{Option, Some, None}
use Rattle.std.proofs.lemmas.List.{length-map}
use Rattle.ppp_packet.specs.declared.proto.Proto.TheVariants.{Lcp}
use Rattle.ppp_bap.specs.BapOut.{Entry as Brought}
use Rattle.ppp_bap.specs.BapOut as brought
use Rattle.ppp_bap.specs.Ask.{asks as bap_asks}
use Rattle.ppp_bap.specs.Requests.{wait_of}
use Rattle.ppp_bap.specs.Step.{Step, takes, tells_status, times_out}
use Rattle.ppp_bap.specs.declared.bap_ask.BapAsk.{BapAsk}
use Rattle.ppp_bap.proofs.AskedLemmas.{takes-unasked}
use Rattle.ppp_bap.specs.declared.call_ask.CallAsk.{CallAsk}
use Rattle.ppp_bundle.specs.Bundles.{bundle_at, control_of}
use Rattle.ppp_link.specs.Link.{Link}
use Rattle.ppp_trunk.specs.StationOut.{Out}
use Rattle.ppp_trunk.specs.Steps.{Happening, Closes, LineDown, LineUp, Opens, Takes, TimesOut}
use Rattle.ppp_trunk.specs.Trunk.{link_ready, on_link}
use Rattle.ppp_trunk.proofs.MovesLemmas.{counts}
use Rattle.ppp_station.specs.Station.{Station, Steps, asked_for_octets, asks_peer, begins, hears, moves, station_does, stepped, tells_peer, tries_again}
use Rattle.ppp_station.specs.Shipped.{answered}
use Rattle.ppp_station.specs.Steps.{Done, asked_for, asked_in, asks, bap_packet, brings, brings_one, bundle_timed, goes_out, links_do, takes_bap, takes_in, tells, times}
use Rattle.ppp_station.specs.View.{view_of}
use Rattle.ppp_station.specs.declared.bap_terms.BapTerms.{BapTerms}
use Rattle.ppp_station.specs.declared.station_event.StationEvent.{StationEvent}
use Rattle.ppp_station.specs.declared.station_event.StationEvent.TheVariants as event

-- ---- how many links

out-count : (o : Option ℕ) (octets : List ℕ) (done : Done) → length (goes_out o octets done).trunk.links ≡ length done.trunk.links
out-count None octets done = refl
out-count (Some l) octets done = refl

one-count : (b word : ℕ) (e : Brought) (done : Done) → length (brings_one b word e done).trunk.links ≡ length done.trunk.links
one-count b word (brought.Send octets) done = out-count (control_of b done.trunk.bundles) octets done
one-count b word (brought.Mark l) done = refl
one-count b word (brought.CloseLink l) done = counts (Closes Lcp) l word done.trunk
one-count b word (brought.Dial l) done = refl

brings-count : (b word : ℕ) (es : List Brought) (done : Done) → length (brings b word es done).trunk.links ≡ length done.trunk.links
brings-count b word [] done = refl
brings-count b word (e ∷ es) done = brings-count b word es (brings_one b word e done) ∙ one-count b word e done

in-count : (allowed : Bool) (terms : BapTerms) (o : Option ℕ) (word : ℕ) (octets : List ℕ) (done : Done) → length (takes_in allowed terms o word octets done).trunk.links ≡ length done.trunk.links
in-count allowed terms None word octets done = refl
in-count allowed terms (Some b) word octets done =
    let step = takes allowed (view_of b terms done.trunk) octets done.requests in brings-count b word step.out (record done { requests = step.requests })

bap-count : (allowed : Bool) (terms : BapTerms) (l word : ℕ) (o : Option (List ℕ)) (done : Done) → length (takes_bap allowed terms l word o done).trunk.links ≡ length done.trunk.links
bap-count allowed terms l word None done = refl
bap-count allowed terms l word (Some octets) done = in-count allowed terms (bundle_at l done.trunk.bundles) word octets done

pub moves-count : (what : Happening) (l : ℕ) (st : Station) (word : ℕ) → length (moves what l st word).station.trunk.links ≡ length st.trunk.links
moves-count what l st word = counts what l word st.trunk

pub hears-count : (allowed : Bool) (l : ℕ) (octets : List ℕ) (st : Station) (word : ℕ) → length (hears allowed l octets st word).station.trunk.links ≡ length st.trunk.links
hears-count allowed l octets st word =
    bap-count allowed st.terms l word (bap_packet (on_link (Takes octets) l st.trunk word).out.entries) (links_do (Takes octets) l word (begins st)) ∙ counts (Takes octets) l word st.trunk

asks-by : (terms : BapTerms) (o : Option ℕ) (what : BapAsk) (word : ℕ) (done : Done) → length (asks terms o what word done).trunk.links ≡ length done.trunk.links
asks-by terms None what word done = refl
asks-by terms (Some b) what word done =
    let step = bap_asks what (view_of b terms done.trunk) done.requests in brings-count b word step.out (record done { requests = step.requests })

pub asks-count : (l : ℕ) (what : BapAsk) (st : Station) (word : ℕ) → length (asks_peer l what st word).station.trunk.links ≡ length st.trunk.links
asks-count l what st word = asks-by st.terms (bundle_at l st.trunk.bundles) what word (begins st)

tells-by : (terms : BapTerms) (o : Option ℕ) (status word : ℕ) (done : Done) → length (tells terms o status word done).trunk.links ≡ length done.trunk.links
tells-by terms None status word done = refl
tells-by terms (Some b) status word done =
    let step = tells_status status (view_of b terms done.trunk) done.requests in brings-count b word step.out (record done { requests = step.requests })

pub tells-count : (l status : ℕ) (st : Station) (word : ℕ) → length (tells_peer l status st word).station.trunk.links ≡ length st.trunk.links
tells-count l status st word = tells-by st.terms (bundle_at l st.trunk.bundles) status word (begins st)

times-by : (o : Option ℕ) (word : ℕ) (done : Done) → length (times o word done).trunk.links ≡ length done.trunk.links
times-by None word done = refl
times-by (Some b) word done =
    let step = times_out b (wait_of b done.requests) done.requests in brings-count b word step.out (record done { requests = step.requests })

pub tries-count : (l : ℕ) (st : Station) (word : ℕ) → length (tries_again l st word).station.trunk.links ≡ length st.trunk.links
tries-count l st word = times-by (bundle_timed l st.trunk) word (begins st)

pub does-count : (allowed : Bool) (ev : StationEvent) (st : Station) (word : ℕ) → length (station_does allowed ev st word).station.trunk.links ≡ length st.trunk.links
does-count allowed (event.Up l) st word = moves-count LineUp l st word
does-count allowed (event.Down l) st word = moves-count LineDown l st word
does-count allowed (event.AdminOpen l p) st word = moves-count (Opens p) l st word
does-count allowed (event.AdminClose l p) st word = moves-count (Closes p) l st word
does-count allowed (event.Timeout l p) st word = moves-count (TimesOut p) l st word
does-count allowed (event.BapTimeout l) st word = tries-count l st word
does-count allowed (event.Bytes l octets) st word = hears-count allowed l octets.now st word
does-count allowed (event.Ask l what) st word = asks-count l what st word
does-count allowed (event.Status l status) st word = tells-count l status st word
does-count allowed event.Reset st word = length-map st.trunk.links (λ (k : Link). link_ready k.tables)

pub steps-count : (says : CallAsk → Bool → Type 0) (ev : StationEvent) (word : ℕ) (old new : Station) (out : Out) → Steps says ev word old new out → length new.trunk.links ≡ length old.trunk.links
steps-count says ev word old new out did = ap (λ (st : Station). length st.trunk.links) did.station ∙ does-count did.allowed ev old word

-- ---- where the policy isn't asked

in-unasked : (a b : Bool) (terms : BapTerms) (o : Option ℕ) (word : ℕ) (octets : List ℕ) (done : Done) → asked_in terms o octets done ≡ None → takes_in a terms o word octets done ≡ takes_in b terms o word octets done
in-unasked a b terms None word octets done e = refl
in-unasked a b terms (Some i) word octets done e =
    ap (λ (s : Step). brings i word s.out (record done { requests = s.requests })) (takes-unasked a b (view_of i terms done.trunk) octets done.requests e)

bap-unasked : (a b : Bool) (terms : BapTerms) (l word : ℕ) (o : Option (List ℕ)) (done : Done) → asked_for terms l o done ≡ None → takes_bap a terms l word o done ≡ takes_bap b terms l word o done
bap-unasked a b terms l word None done e = refl
bap-unasked a b terms l word (Some octets) done e = in-unasked a b terms (bundle_at l done.trunk.bundles) word octets done e

pub hears-unasked : (a b : Bool) (l : ℕ) (octets : List ℕ) (st : Station) (word : ℕ) → asked_for_octets l octets st word ≡ None → hears a l octets st word ≡ hears b l octets st word
hears-unasked a b l octets st word e =
    let t = on_link (Takes octets) l st.trunk word in
    ap (λ done. stepped st.terms done t.out.used) (bap-unasked a b st.terms l word (bap_packet t.out.entries) (links_do (Takes octets) l word (begins st)) e)

-- the step is the one by what it says where it is asked
pub hears-answered : (allowed : Bool) (l : ℕ) (octets : List ℕ) (st : Station) (word : ℕ) → hears allowed l octets st word ≡ hears (answered (λ question. allowed) (asked_for_octets l octets st word)) l octets st word
hears-answered allowed l octets st word = by (asked_for_octets l octets st word) refl
  where
    by : (o : Option CallAsk) → asked_for_octets l octets st word ≡ o → hears allowed l octets st word ≡ hears (answered (λ question. allowed) o) l octets st word
    by (Some question) e = refl
    by None e = hears-unasked allowed false l octets st word e
