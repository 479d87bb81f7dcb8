-- What the steps of a station come to.
use Rattle.std.proofs.Common.{◌≡◌, ◌∙◌, ◌<◌, ℕ, Bool, List, [], ◌∷◌, ◌++◌, length, sym, subst, ap}
use Rattle.std.specs.Prelude.{Result, Option, None, Some, IfSome, ⊤}
use Rattle.ppp_bap.specs.Ask.{asks as bap_asks}
use Rattle.ppp_bap.specs.BapOut.{Entry as Brought}
use Rattle.ppp_bap.specs.Requests.{Requests}
use Rattle.ppp_bap.specs.Step.{Step, stays, takes}
use Rattle.ppp_bap.specs.Wish.{request_for, told}
use Rattle.ppp_bap.specs.declared.ask_refused.AskRefused.{AskRefused}
use Rattle.ppp_bap.specs.declared.bap_ask.BapAsk.{BapAsk}
use Rattle.ppp_bap.specs.declared.bundle_view.BundleView.{BundleView}
use Rattle.ppp_bundle.specs.BundleTable.{IsBundleOf}
use Rattle.ppp_bundle.specs.Bundles.{Bundles}
use Rattle.ppp_bundle.specs.declared.limits.Limits.{Limits}
use Rattle.ppp_bundle.specs.declared.limits.TheConstants.{MOST_BUNDLES}
use Rattle.ppp_trunk.specs.StationOut.{Asked, Entry, Out}
use Rattle.ppp_trunk.specs.Steps.{Takes}
use Rattle.ppp_trunk.specs.Trunk.{IsOfLink, Trunk, limits_of, on_link}
use Rattle.ppp_trunk.proofs.MovesLemmas.{counts}
use Rattle.ppp_station.specs.Brought.{AreBrought}
use Rattle.ppp_station.specs.Heard.{IsHeard}
use Rattle.ppp_station.specs.Station.{IsStation, station_at}
use Rattle.ppp_station.specs.Steps.{Done, and_tells, asks, asks_in, bap_packet, brings, links_do, so_far}
use Rattle.ppp_station.specs.View.{view_of}
use Rattle.ppp_station.specs.declared.bap_terms.BapTerms.{BapTerms}
use Rattle.ppp_station.proofs.BringLemmas.{takes-brought}
use Rattle.ppp_station.proofs.LiveLemmas.{heard-live}
use Rattle.ppp_station.proofs.SoundLemmas.{Sound, sound-links}

-- ---- what is always so, of a station and of what was done so far

pub sound-from : (t : Trunk) (q : Requests) (terms : BapTerms) (es : List Entry) → IsStation (station_at t q terms) → Sound (so_far t q es)
sound-from t q terms es h = record { trunk = h.trunk; requests = h.requests; joined = record { each = h.joined } }

pub station-from : (terms : BapTerms) (done : Done) → Sound done → IsStation (station_at done.trunk done.requests terms)
station-from terms done h = record { trunk = h.trunk; requests = h.requests; joined = h.joined.each }

-- ---- octets came, and the links did their step

pub heard-link : (l word : ℕ) (octets : List ℕ) (from now : Done) → now ≡ links_do (Takes octets) l word from → IsOfLink (length from.trunk.links) l → IsOfLink (length now.trunk.links) l
heard-link l word octets from now is of =
    subst (λ n. IsOfLink n l) (sym (counts (Takes octets) l word from.trunk) ∙ sym (ap (λ (d : Done). length d.trunk.links) is)) of

pub heard-station : (l word : ℕ) (octets : List ℕ) (terms after : BapTerms) (t : Trunk) (q : Requests) (es : List Entry) (now : Done) → now ≡ links_do (Takes octets) l word (so_far t q es) →
    IsOfLink (length t.links) l → IsStation (station_at t q terms) → IsStation (station_at now.trunk now.requests after)
heard-station l word octets terms after t q es now is of h =
    station-from after now (subst Sound (sym is) (sound-links (Takes octets) l word (so_far t q es) of h.trunk h.requests))

pub heard-heard : (l word : ℕ) (octets : List ℕ) (terms : BapTerms) (t : Trunk) (q : Requests) (es : List Entry) (told : Out) (now : Done) → now ≡ links_do (Takes octets) l word (so_far t q es) →
    told ≡ (on_link (Takes octets) l t word).out → IsOfLink (length t.links) l → IsStation (station_at t q terms) → IsHeard l (bap_packet told.entries) now.trunk
heard-heard l word octets terms t q es told now is out of h =
    subst (λ (d : Done). IsHeard l (bap_packet told.entries) d.trunk) (sym is)
    (subst (λ (o : Out). IsHeard l (bap_packet o.entries) (on_link (Takes octets) l t word).trunk) (sym out) (heard-live l word octets t of h.trunk))

-- ---- a packet of BAP was taken

pub received : (allowed : Bool) (b word : ℕ) (terms : BapTerms) (v : BundleView) (octets : List ℕ) (t : Trunk) (q new : Requests) (es : List Brought) (out : List Entry) →
    b < MOST_BUNDLES → IsStation (station_at t q terms) → v ≡ view_of b terms t → new ≡ (takes allowed v octets q).requests → es ≡ (takes allowed v octets q).out →
    AreBrought b word es (so_far t new out)
received allowed b word terms v octets t q new es out lt h seen requests sent =
    let step : BundleView → Step = λ v. takes allowed v octets q in
    let requests_is : new ≡ (step (view_of b terms t)).requests = requests ∙ ap (λ v. (step v).requests) seen in
    let sent_is : es ≡ (step (view_of b terms t)).out = sent ∙ ap (λ v. (step v).out) seen in
    subst (λ q. AreBrought b word es (so_far t q out)) (sym requests_is)
    (subst (λ es. AreBrought b word es (so_far t (step (view_of b terms t)).requests out)) (sym sent_is)
    (takes-brought allowed b word terms octets (so_far t q out) lt (sound-from t q terms out h)))

-- ---- one asked

pub asked-done : (b word : ℕ) (what : BapAsk) (v : BundleView) (done mid : Done) (q : Requests) (es : List Brought) (a : Result ⊤ AskRefused) →
    q ≡ (bap_asks what v done.requests).requests → es ≡ (bap_asks what v done.requests).out → mid ≡ brings b word es (record done { requests = q }) →
    a ≡ told (request_for what v done.requests) → and_tells mid (Asked a) ≡ asks_in b what v word done
asked-done b word what v done mid q es a requests sent is answer =
    let step = bap_asks what v done.requests in
    let then : mid ≡ brings b word step.out (record done { requests = step.requests }) =
    is ∙ ap (λ q. brings b word es (record done { requests = q })) requests ∙ ap (λ es. brings b word es (record done { requests = step.requests })) sent in
    ap (λ (d : Done). and_tells d (Asked a)) then ∙ ap (λ a. and_tells (brings b word step.out (record done { requests = step.requests })) (Asked a)) answer

pub refused-done : (b word : ℕ) (what : BapAsk) (v : BundleView) (done : Done) (a : Result ⊤ AskRefused) → bap_asks what v done.requests ≡ stays done.requests →
    a ≡ told (request_for what v done.requests) → and_tells done (Asked a) ≡ asks_in b what v word done
refused-done b word what v done a nothing answer =
    ap (λ a. and_tells done (Asked a)) answer
    ∙ sym (ap (λ (step : Step). and_tells (brings b word step.out (record done { requests = step.requests })) (Asked (told (request_for what v done.requests)))) nothing)

-- a bundle that a link is joined in is one of eight
pub bundle-below : (o : Option ℕ) (b n : ℕ) (t : Bundles) → o ≡ Some b → t.limits ≡ limits_of n → IfSome o (IsBundleOf t) → b < MOST_BUNDLES
bundle-below None b n t is limits within = absurd (cc)
bundle-below (Some c) b n t is limits within =
    let same : c ≡ b = cc in
    subst (λ c. c < MOST_BUNDLES) same (subst (λ m. c < m) (ap (λ (n : Limits). n.bundles) limits) within)

asks-some : (o : Option ℕ) (b word : ℕ) (what : BapAsk) (terms : BapTerms) (v : BundleView) (t : Trunk) (q : Requests) (out : List Entry) (x : Done) → o ≡ Some b → v ≡ view_of b terms t → out ≡ [] →
    x ≡ asks_in b what v word (so_far t q out) → x ≡ asks terms o what word (so_far t q [])
asks-some o b word what terms v t q out x is seen empty done =
    done ∙ ap (λ v. asks_in b what v word (so_far t q out)) seen
    ∙ ap (λ out. asks_in b what (view_of b terms t) word (so_far t q out)) empty
    ∙ ap (λ o. asks terms o what word (so_far t q [])) (sym is)

pub asked-whole : (b word : ℕ) (what : BapAsk) (terms : BapTerms) (o : Option ℕ) (v : BundleView) (t now : Trunk) (q first last : Requests) (es : List Brought) (out behind told_last : List Entry) (a : Result ⊤ AskRefused) →
    o ≡ Some b → v ≡ view_of b terms t → out ≡ [] → first ≡ (bap_asks what v q).requests → es ≡ (bap_asks what v q).out →
    so_far now last behind ≡ brings b word es (so_far t first out) → a ≡ told (request_for what v q) → told_last ≡ behind ++ Asked a ∷ [] →
    so_far now last told_last ≡ asks terms o what word (so_far t q [])
asked-whole b word what terms o v t now q first last es out behind told_last a is seen empty requests sent done answer out_is =
    asks-some o b word what terms v t q out _ is seen empty
    (ap (so_far now last) out_is ∙ asked-done b word what v (so_far t q out) (so_far now last behind) first es a requests sent done answer)

pub refused-whole : (b word : ℕ) (what : BapAsk) (terms : BapTerms) (o : Option ℕ) (v : BundleView) (t : Trunk) (q last : Requests) (out told_last : List Entry) (a : Result ⊤ AskRefused) →
    o ≡ Some b → v ≡ view_of b terms t → out ≡ [] → bap_asks what v q ≡ stays q → last ≡ q → a ≡ told (request_for what v q) → told_last ≡ out ++ Asked a ∷ [] →
    so_far t last told_last ≡ asks terms o what word (so_far t q [])
refused-whole b word what terms o v t q last out told_last a is seen empty nothing same answer out_is =
    asks-some o b word what terms v t q out _ is seen empty
    (ap (so_far t last) out_is ∙ ap (λ q. so_far t q (out ++ Asked a ∷ [])) same ∙ refused-done b word what v (so_far t q out) a nothing answer)
