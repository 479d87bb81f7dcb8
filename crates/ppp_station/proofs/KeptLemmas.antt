-- What always holds of a station stays so, and its steps are moves of its links.
use Rattle.std.proofs.Common.{◌≡◌, ◌∙◌, ◌<◌, ◌≤◌, ℕ, zero, suc, Bool, true, false, List, [], ◌∷◌, length, get_or, replicate, refl, sym, subst, ap, arith, ⊎_elim}
use Rattle.std.specs.Prelude.{Option, Some, None, Err, if◌then◌else◌, option_map}
use Rattle.std.proofs.lemmas.Bool.Decides.{nat_tests}
use Rattle.ppp_bap.specs.Ask.{asks as bap_asks}
use Rattle.ppp_bap.specs.BapOut.{Entry as Brought}
use Rattle.ppp_bap.specs.Requests.{AreRequests, IsOfLink as IsOfLinkNumber, Requests, asked_of, requests_begun, wait_of}
use Rattle.ppp_conf.specs.EndConfig.{EndSettings}
use Rattle.ppp_bap.specs.Step.{Step, takes, tells_status, times_out}
use Rattle.ppp_bap.specs.Wish.{request_for, told}
use Rattle.ppp_bap.specs.declared.ask_refused.AskRefused.TheVariants.{NotOpen}
use Rattle.ppp_bap.specs.declared.bap_ask.BapAsk.{BapAsk}
use Rattle.ppp_bap.specs.declared.bap_ask.BapAsk.TheVariants as ask
use Rattle.ppp_bap.specs.declared.call_ask.CallAsk.{CallAsk}
use Rattle.ppp_bap.proofs.StepLemmas.{AskOneMore, IsAskJoined, asks-alone, asks-keeps, takes-keeps, tells-alone, tells-keeps, times-alone, times-keeps}
use Rattle.ppp_bundle.specs.Bundles.{Bundles, Member, bundle_at, member_at}
use Rattle.ppp_bundle.specs.declared.limits.Limits.{Limits}
use Rattle.ppp_bundle.specs.declared.limits.TheConstants.{MOST_BUNDLES}
use Rattle.ppp_trunk.specs.Control.{is_same_link}
use Rattle.ppp_trunk.specs.Moves.{AreLinked}
use Rattle.ppp_trunk.specs.Phases.{IsTrunk}
use Rattle.ppp_trunk.specs.StationOut.{Asked, Entry, Out}
use Rattle.ppp_trunk.specs.Steps.{Closes, Happening, LineDown, LineUp, Opens, Takes, TimesOut, control_for}
use Rattle.ppp_trunk.specs.Trunk.{IsOfLink, Trunk, on_link, trunk_anew}
use Rattle.ppp_trunk.proofs.MovesLemmas.{counts}
use Rattle.ppp_trunk.proofs.TrunkPhaseLemmas.{begun-anew, begun-trunk, few-links, its-limits}
use Rattle.ppp_station.specs.Brought.{AreBrought}
use Rattle.ppp_station.specs.Moves.{Does, IsMoved, Moved}
use Rattle.ppp_station.specs.Station.{BeginsBy, IsJoinedAsk, IsOfAsk, IsOfLinks, IsStation, Station, Steps, asks_peer, begins, hears, moves, station_anew, station_at, station_does, tells_peer, tries_again}
use Rattle.ppp_station.specs.Steps.{Done, asks, bap_packet, brings, bundle_timed, links_do, takes_bap, takes_in, tells, times}
use Rattle.ppp_station.specs.View.{view_of}
use Rattle.ppp_station.specs.declared.bap_terms.BapTerms.{BapTerms}
use Rattle.ppp_station.specs.declared.station_event.StationEvent.{StationEvent}
use Rattle.ppp_station.specs.declared.station_event.StationEvent.TheVariants as event
use Rattle.ppp_station.proofs.BringLemmas.{alone-brought, takes-brought}
use Rattle.ppp_station.proofs.MaskLemmas.{mask-joined}
use Rattle.ppp_station.proofs.MoveLemmas.{Leads, Linked, caused-linked, does-linked, leads-both, leads-brings, leads-none, leads-tell}
use Rattle.ppp_station.proofs.SoundLemmas.{Sound, its-bundles, sound-brings, sound-links}
use Rattle.ppp_station.proofs.StationLemmas.{station-from}
use Rattle.ppp_station.proofs.WaitLemmas.{AreJoined, joined-fewer}

-- ---- plain facts

none-anywhere : {A : Type 0} (n i : ℕ) → get_or {A = Option A} (replicate n None) i None ≡ None
none-anywhere zero i = refl
none-anywhere (suc n) zero = refl
none-anywhere (suc n) (suc i) = none-anywhere n i

none-some : {A : Type 0} {x : A} → ◌≡◌ {A = Option A} None (Some x) → ⊥
none-some e = cc

same-self : (b : ℕ) → is_same_link (Some b) (Some b) ≡ true
same-self b = grind (arith, nat_tests)

-- ---- a bundle that a link is joined in is one of eight

member-within : (o : Option Member) (b : ℕ) (t : Bundles) → ((m : Member) → o ≡ Some m → m.bundle < t.limits.bundles) → option_map (λ (m : Member). m.bundle) o ≡ Some b → b < t.limits.bundles
member-within None b t all is = absurd (cc)
member-within (Some m) b t all is = let same : m.bundle ≡ b = cc in subst (λ b. b < t.limits.bundles) same (all m refl)

joined-below : (l b : ℕ) (t : Trunk) → IsTrunk t → bundle_at l t.bundles ≡ Some b → b < MOST_BUNDLES
joined-below l b t trunk is =
    subst (λ n. b < n) (ap (λ (n : Limits). n.bundles) (its-limits t trunk))
    (member-within (member_at l t.bundles) b t.bundles (λ m at. ((its-bundles t trunk).members l m at).within) is)

timed-joined : (l b : ℕ) (t : Trunk) → bundle_timed l t ≡ Some b → bundle_at l t.bundles ≡ Some b
timed-joined l b t = by (is_same_link (control_for l t.bundles) (Some l)) where
  by : (same : Bool) → (if same then bundle_at l t.bundles else None) ≡ Some b → bundle_at l t.bundles ≡ Some b
  by true is = is
  by false is = absurd (cc)

-- ---- what leads on, and keeps what is always so

pub record Goes (word : ℕ) (from to : Done) : Type 0 where
  pub sound : Sound to
  pub leads : Leads (length from.trunk.links) word from to

goes-none : (word : ℕ) (done : Done) → Sound done → Goes word done done
goes-none word done h = record { sound = h; leads = leads-none (length done.trunk.links) word done }

-- other requests wait, and what is brought leads on
leads-wait : (word b : ℕ) (q : Requests) (es : List Brought) (done : Done) → IsTrunk done.trunk → AreBrought b word es (record done { requests = q }) →
    Leads (length done.trunk.links) word done (brings b word es (record done { requests = q }))
leads-wait word b q es done trunk are =
    let leads = leads-brings b word es (record done { requests = q }) trunk are in record { more = leads.more; caused = leads.caused; leads = leads.leads }

goes-wait : (word b : ℕ) (q : Requests) (es : List Brought) (done : Done) → Sound (record done { requests = q }) → AreBrought b word es (record done { requests = q }) →
    Goes word done (brings b word es (record done { requests = q }))
goes-wait word b q es done h are = record {
  sound = sound-brings b word es (record done { requests = q }) h are;
  leads = leads-wait word b q es done h.trunk are;
}

-- ---- a packet of BAP

goes-in : (allowed : Bool) (terms : BapTerms) (o : Option ℕ) (l word : ℕ) (octets : List ℕ) (done : Done) → bundle_at l done.trunk.bundles ≡ o → Sound done → Goes word done (takes_in allowed terms o word octets done)
goes-in allowed terms None l word octets done at h = goes-none word done h
goes-in allowed terms (Some b) l word octets done at h =
    let step = takes allowed (view_of b terms done.trunk) octets done.requests in
    let keeps = takes-keeps allowed (view_of b terms done.trunk) octets done.requests h.requests in
    goes-wait word b step.requests step.out done
    (record { trunk = h.trunk; requests = keeps.sound; joined = joined-fewer done.requests step.requests done.trunk.bundles keeps.asked h.joined })
    (takes-brought allowed b word terms octets done (joined-below l b done.trunk h.trunk at) h)

goes-takes : (allowed : Bool) (terms : BapTerms) (l word : ℕ) (p : Option (List ℕ)) (done : Done) → Sound done → Goes word done (takes_bap allowed terms l word p done)
goes-takes allowed terms l word None done h = goes-none word done h
goes-takes allowed terms l word (Some octets) done h = goes-in allowed terms (bundle_at l done.trunk.bundles) l word octets done refl h

-- ---- one tells, and time passes

goes-tells : (terms : BapTerms) (o : Option ℕ) (status word : ℕ) (done : Done) → Sound done → Goes word done (tells terms o status word done)
goes-tells terms None status word done h = goes-none word done h
goes-tells terms (Some b) status word done h =
    let v = view_of b terms done.trunk in
    let step = tells_status status v done.requests in
    let keeps = tells-keeps status v done.requests h.requests in
    goes-wait word b step.requests step.out done
    (record { trunk = h.trunk; requests = keeps.sound; joined = joined-fewer done.requests step.requests done.trunk.bundles keeps.asked h.joined })
    (alone-brought b word step.out (record done { requests = step.requests }) (tells-alone status v done.requests))

goes-times : (o : Option ℕ) (word : ℕ) (done : Done) → Sound done → Goes word done (times o word done)
goes-times None word done h = goes-none word done h
goes-times (Some b) word done h =
    let step = times_out b (wait_of b done.requests) done.requests in
    let keeps = times-keeps b (wait_of b done.requests) done.requests h.requests refl in
    goes-wait word b step.requests step.out done
    (record { trunk = h.trunk; requests = keeps.sound; joined = joined-fewer done.requests step.requests done.trunk.bundles keeps.asked h.joined })
    (alone-brought b word step.out (record done { requests = step.requests }) (times-alone b (wait_of b done.requests) done.requests))

-- ---- one asks

asks-leads : (terms : BapTerms) (o : Option ℕ) (what : BapAsk) (word : ℕ) (done : Done) → IsTrunk done.trunk → Leads (length done.trunk.links) word done (asks terms o what word done)
asks-leads terms None what word done trunk = leads-tell (length done.trunk.links) word (Asked (Err NotOpen)) done tt
asks-leads terms (Some b) what word done trunk =
    let v = view_of b terms done.trunk in
    let step : Step = bap_asks what v done.requests in
    let n = length done.trunk.links in
    let mid = brings b word step.out (record done { requests = step.requests }) in
    leads-both n word done mid _
    (leads-wait word b step.requests step.out done trunk (alone-brought b word step.out (record done { requests = step.requests }) (asks-alone what v done.requests)))
    (leads-tell n word (Asked (told (request_for what v done.requests))) mid tt)

-- what is asked is of a joined link
joined-asked : (b : ℕ) (what : BapAsk) (terms : BapTerms) (t : Trunk) → IsAskJoined (view_of b terms t) what → IsJoinedAsk b (Some what) t.bundles
joined-asked b ask.Call terms t h = refl
joined-asked b ask.Callback terms t h = refl
joined-asked b (ask.Drop l) terms t h = ap (λ o. is_same_link o (Some b)) (mask-joined b l t.bundles h).1 ∙ same-self b

joined-more : (b : ℕ) (what : BapAsk) (terms : BapTerms) (t : Trunk) (q new : Requests) → AskOneMore what (view_of b terms t) q new → AreJoined q t.bundles → AreJoined new t.bundles
joined-more b what terms t q new more h = record {
  each = λ j lt. ⊎_elim
      (λ (same : asked_of j new ≡ asked_of j q). subst (λ o. IsJoinedAsk j o t.bundles) (sym same) (h.each j lt))
      (λ (put : (asked_of j new ≡ Some what) × (j ≡ b) × IsAskJoined (view_of b terms t) what).
      subst (λ o. IsJoinedAsk j o t.bundles) (sym put.0) (subst (λ i. IsJoinedAsk i (Some what) t.bundles) (sym put.1) (joined-asked b what terms t put.2))) (more j);
}

asks-sound : (terms : BapTerms) (o : Option ℕ) (what : BapAsk) (word : ℕ) (done : Done) → IsOfLinkNumber what → Sound done → Sound (asks terms o what word done)
asks-sound terms None what word done of h = record { trunk = h.trunk; requests = h.requests; joined = h.joined }
asks-sound terms (Some b) what word done of h =
    let v = view_of b terms done.trunk in
    let step = bap_asks what v done.requests in
    let keeps = asks-keeps what v done.requests h.requests of in
    let mid = sound-brings b word step.out (record done { requests = step.requests })
    (record { trunk = h.trunk; requests = keeps.sound; joined = joined-more b what terms done.trunk done.requests step.requests keeps.asked h.joined })
    (alone-brought b word step.out (record done { requests = step.requests }) (asks-alone what v done.requests)) in
    record { trunk = mid.trunk; requests = mid.requests; joined = mid.joined }

-- ---- an event

-- the number of a link that is to be dropped
asked-number : (what : BapAsk) (n : ℕ) → n ≤ 16 → IsOfAsk what n → IsOfLinkNumber what
asked-number ask.Call n few of = tt
asked-number ask.Callback n few of = tt
asked-number (ask.Drop l) n few of = record { least = of.0; most = omega (arith, of.1, few) }

sound-begins : (st : Station) → IsStation st → Sound (begins st)
sound-begins st h = record { trunk = h.trunk; requests = h.requests; joined = record { each = h.joined } }

none-joined : (b : ℕ) (t : Bundles) → IsJoinedAsk b (asked_of b requests_begun) t
none-joined b t = subst (λ o. IsJoinedAsk b o t) (sym (ap (option_map (λ w. w.ask)) (none-anywhere 8 b))) tt

anew-station : (st : Station) → IsStation st → IsStation (station_anew st)
anew-station st h = record {
  trunk = begun-trunk (trunk_anew st.trunk) (begun-anew st.trunk h.trunk);
  requests = record { next = omega arith; places = refl; waits = λ b w e. absurd (none-some (sym (none-anywhere 8 b) ∙ e)) };
  joined = λ b lt. none-joined b (trunk_anew st.trunk).bundles;
}

-- a station as it begins
pub begun-station : (s : EndSettings) (st : Station) → BeginsBy s st → IsStation st
begun-station s st begun = record {
  trunk = begun-trunk st.trunk begun.links.begun;
  requests = subst AreRequests (sym begun.requests) (record { next = omega arith; places = refl; waits = λ b w e. absurd (none-some (sym (none-anywhere 8 b) ∙ e)) });
  joined = λ b lt. subst (λ q. IsJoinedAsk b (asked_of b q) st.trunk.bundles) (sym begun.requests) (none-joined b st.trunk.bundles);
}

moves-sound : (what : Happening) (l word : ℕ) (st : Station) → IsOfLink (length st.trunk.links) l → IsStation st → Sound (links_do what l word (begins st))
moves-sound what l word st of h = sound-links what l word (begins st) of h.trunk h.requests

moves-station : (what : Happening) (l word : ℕ) (st : Station) → IsOfLink (length st.trunk.links) l → IsStation st → IsStation (moves what l st word).station
moves-station what l word st of h = station-from st.terms (links_do what l word (begins st)) (moves-sound what l word st of h)

hears-goes : (allowed : Bool) (l word : ℕ) (octets : List ℕ) (st : Station) → IsOfLink (length st.trunk.links) l → IsStation st →
    let mid = links_do (Takes octets) l word (begins st) in
    Goes word mid (takes_bap allowed st.terms l word (bap_packet (on_link (Takes octets) l st.trunk word).out.entries) mid)
hears-goes allowed l word octets st of h =
    goes-takes allowed st.terms l word (bap_packet (on_link (Takes octets) l st.trunk word).out.entries) (links_do (Takes octets) l word (begins st)) (moves-sound (Takes octets) l word st of h)

pub kept-station : (allowed : Bool) (ev : StationEvent) (st : Station) (word : ℕ) → IsOfLinks ev (length st.trunk.links) → IsStation st → IsStation (station_does allowed ev st word).station
kept-station allowed (event.Up l) st word of h = moves-station LineUp l word st of h
kept-station allowed (event.Down l) st word of h = moves-station LineDown l word st of h
kept-station allowed (event.AdminOpen l p) st word of h = moves-station (Opens p) l word st of h
kept-station allowed (event.AdminClose l p) st word of h = moves-station (Closes p) l word st of h
kept-station allowed (event.Timeout l p) st word of h = moves-station (TimesOut p) l word st of h
kept-station allowed (event.BapTimeout l) st word of h = station-from st.terms _ (goes-times (bundle_timed l st.trunk) word (begins st) (sound-begins st h)).sound
kept-station allowed (event.Bytes l octets) st word of h = station-from st.terms _ (hears-goes allowed l word octets.now st of h).sound
kept-station allowed (event.Ask l what) st word of h =
    station-from st.terms _
    (asks-sound st.terms (bundle_at l st.trunk.bundles) what word (begins st) (asked-number what (length st.trunk.links) (few-links st.trunk h.trunk) of.1) (sound-begins st h))
kept-station allowed (event.Status l status) st word of h =
    station-from st.terms _ (goes-tells st.terms (bundle_at l st.trunk.bundles) status word (begins st) (sound-begins st h)).sound
kept-station allowed event.Reset st word of h = anew-station st h

-- ---- its moves

moved-from : (word : ℕ) (st : Station) (to : Done) → Leads (length st.trunk.links) word (begins st) to → IsMoved [] word st (station_at to.trunk to.requests st.terms) to.out
moved-from word st to leads = record { more = leads.more; caused = leads.caused; leads = leads.leads }

pub moved-octets : (allowed : Bool) (l word : ℕ) (octets : List ℕ) (st : Station) → IsStation st → IsOfLink (length st.trunk.links) l →
    IsMoved (Does (Takes octets) l ∷ []) word st (hears allowed l octets st word).station (hears allowed l octets st word).out.entries
moved-octets allowed l word octets st h of =
    let mid = links_do (Takes octets) l word (begins st) in
    let to = takes_bap allowed st.terms l word (bap_packet (on_link (Takes octets) l st.trunk word).out.entries) mid in
    let leads = subst (λ n. Leads n word mid to) (counts (Takes octets) l word st.trunk) (hears-goes allowed l word octets st of h).leads in
    record { more = leads.more; caused = leads.caused; leads = leads.leads }

pub moved-asks : (l word : ℕ) (what : BapAsk) (st : Station) → IsStation st → IsOfLink (length st.trunk.links) l → IsMoved [] word st (asks_peer l what st word).station (asks_peer l what st word).out.entries
moved-asks l word what st h of = moved-from word st _ (asks-leads st.terms (bundle_at l st.trunk.bundles) what word (begins st) h.trunk)

pub moved-tells : (l status word : ℕ) (st : Station) → IsStation st → IsOfLink (length st.trunk.links) l → IsMoved [] word st (tells_peer l status st word).station (tells_peer l status st word).out.entries
moved-tells l status word st h of = moved-from word st _ (goes-tells st.terms (bundle_at l st.trunk.bundles) status word (begins st) (sound-begins st h)).leads

pub moved-tries : (l word : ℕ) (st : Station) → IsStation st → IsOfLink (length st.trunk.links) l → IsMoved [] word st (tries_again l st word).station (tries_again l st word).out.entries
moved-tries l word st h of = moved-from word st _ (goes-times (bundle_timed l st.trunk) word (begins st) (sound-begins st h)).leads

-- ---- frames go out on links that are there

begins-linked : (st : Station) → Linked (length st.trunk.links) (record { trunk = st.trunk; out = [] })
begins-linked st = record { count = refl; linked = tt }

all-there : (st after : Station) (out : List Entry) (m : Moved) → Linked (length st.trunk.links) m → m ≡ record { trunk = after.trunk; out = out } → AreLinked (length after.trunk.links) out
all-there st after out m h is =
    subst (λ (m : Moved). AreLinked (length m.trunk.links) m.out) is (subst (λ n. AreLinked n m.out) (sym h.count) h.linked)

does-there : (what : Happening) (l word : ℕ) (st after : Station) (out : List Entry) → IsOfLink (length st.trunk.links) l → IsMoved (Does what l ∷ []) word st after out → AreLinked (length after.trunk.links) out
does-there what l word st after out of h =
    all-there st after out _
    (caused-linked (length st.trunk.links) word h.more _ h.caused (does-linked (length st.trunk.links) word l what (record { trunk = st.trunk; out = [] }) of (begins-linked st))) h.leads

caused-there : (word : ℕ) (st after : Station) (out : List Entry) → IsMoved [] word st after out → AreLinked (length after.trunk.links) out
caused-there word st after out h = all-there st after out _ (caused-linked (length st.trunk.links) word h.more _ h.caused (begins-linked st)) h.leads

moves-there : (what : Happening) (l word : ℕ) (st : Station) → IsOfLink (length st.trunk.links) l → AreLinked (length (moves what l st word).station.trunk.links) (moves what l st word).out.entries
moves-there what l word st of = does-there what l word st (moves what l st word).station (moves what l st word).out.entries of (record { more = []; caused = tt; leads = refl })

pub linked-station : (allowed : Bool) (ev : StationEvent) (st : Station) (word : ℕ) → IsOfLinks ev (length st.trunk.links) → IsStation st →
    AreLinked (length (station_does allowed ev st word).station.trunk.links) (station_does allowed ev st word).out.entries
linked-station allowed (event.Up l) st word of h = moves-there LineUp l word st of
linked-station allowed (event.Down l) st word of h = moves-there LineDown l word st of
linked-station allowed (event.AdminOpen l p) st word of h = moves-there (Opens p) l word st of
linked-station allowed (event.AdminClose l p) st word of h = moves-there (Closes p) l word st of
linked-station allowed (event.Timeout l p) st word of h = moves-there (TimesOut p) l word st of
linked-station allowed (event.BapTimeout l) st word of h = caused-there word st (tries_again l st word).station (tries_again l st word).out.entries (moved-tries l word st h of)
linked-station allowed (event.Bytes l octets) st word of h =
    does-there (Takes octets.now) l word st (hears allowed l octets.now st word).station (hears allowed l octets.now st word).out.entries of (moved-octets allowed l word octets.now st h of)
linked-station allowed (event.Ask l what) st word of h = caused-there word st (asks_peer l what st word).station (asks_peer l what st word).out.entries (moved-asks l word what st h of.0)
linked-station allowed (event.Status l status) st word of h = caused-there word st (tells_peer l status st word).station (tells_peer l status st word).out.entries (moved-tells l status word st h of)
linked-station allowed event.Reset st word of h = tt

-- ---- behind a step

pub stepped-station : (says : CallAsk → Bool → Type 0) (ev : StationEvent) (word : ℕ) (old new : Station) (out : Out) → IsOfLinks ev (length old.trunk.links) → IsStation old →
    Steps says ev word old new out → IsStation new
stepped-station says ev word old new out of h steps = subst IsStation (sym steps.station) (kept-station steps.allowed ev old word of h)

pub stepped-linked : (says : CallAsk → Bool → Type 0) (ev : StationEvent) (word : ℕ) (old new : Station) (out : Out) → IsOfLinks ev (length old.trunk.links) → IsStation old →
    Steps says ev word old new out → AreLinked (length new.trunk.links) out.entries
stepped-linked says ev word old new out of h steps =
    let after = station_does steps.allowed ev old word in
    subst (λ (st : Station). AreLinked (length st.trunk.links) out.entries) (sym steps.station)
    (subst (λ (o : Out). AreLinked (length after.station.trunk.links) o.entries) (sym steps.sent) (linked-station steps.allowed ev old word of h))
