-- What the code of an end does is what the definitions say of all its links.
use Rattle.std.proofs.Common.{◌≡◌, ℕ, suc, ◌+◌, ◌-◌, ◌<◌, ◌≤◌, Bool, false, List, [], ◌∷◌, ◌++◌, length, map, set, get_or, replicate, refl, sym, ap, subst, ◌∙◌, arith, length-set}
use Rattle.std.specs.Prelude.{Some, slice_get}
use Rattle.std.specs.List.{AllByRecursion}
use Rattle.std.proofs.lemmas.List.{length-map, set-get_or}
use Rattle.ppp_duet.specs.Duet.{without}
use Rattle.ppp_duet.specs.Span.{answers, least, requests}
use Rattle.ppp_link.specs.Link.{Link}
use Rattle.ppp_packet.specs.declared.proto.Proto.{Proto}
use Rattle.ppp_bap.specs.Answer.{IfAsked}
use Rattle.ppp_bap.specs.declared.bap.TheConstants.{BUNDLES}
use Rattle.ppp_bap.specs.declared.bap_ask.BapAsk.{BapAsk}
use Rattle.ppp_bap.specs.declared.call_ask.CallAsk.{CallAsk}
use Rattle.ppp_trunk.specs.StationOut.{AreShort, Out}
use Rattle.ppp_trunk.specs.Steps.{Happening}
use Rattle.ppp_bundle.specs.Bundles.{bundle_at}
use Rattle.ppp_station.specs.Station.{IsStation, Station, Stepped, asks_peer, hears, moves, station_anew, tells_peer, tries_again}
use Rattle.ppp_station.specs.Steps.{bundle_timed}
use Rattle.ppp_party.specs.BapSpans.{Oldest, bap_answers, bap_marks_on, bap_oldest_to, bap_requests, older}
use Rattle.ppp_party.specs.Calls.{Calls, notes_ask, notes_drawn, ordinal_if}
use Rattle.ppp_party.specs.Frame.{Frame, only}
use Rattle.ppp_party.specs.Ledger.{Ledgers, ledgers_begun}
use Rattle.ppp_party.specs.Party.{AreRoomy, Delivered, Ends, IsParty, Party, Taken, asked_for_front, asks, cleared, delivers, downs, happens, heard_on, loses, party_begun, posted, reboots, room, station_of, taken, taking_front, tells, tries, turned, with_heard}
use Rattle.ppp_party.specs.Spans.{oldest_on, queue_if, sent_on}
use Rattle.ppp_party.proofs.ListLemmas.{all-set, at-set, lent-at}
use Rattle.ppp_party.proofs.QueueLemmas.{least-behind}
use Rattle.ppp_station.proofs.CountLemmas.{hears-answered}

-- an end as the code keeps it
abbrev pub party_at : Station → ℕ → List ℕ → List Ledgers → List (List Frame) → Party
party_at st drawn ordinals gss queues = record {
  trunk = st.trunk;
  calls = record { requests = st.requests; terms = st.terms; drawn = drawn; ordinals = ordinals };
  ledgers = gss;
  incoming = queues;
}

-- ---- an end stays whole

pub whole-stepped : (old st : Station) (drawn now : ℕ) (ordinals kept : List ℕ) (gss : List Ledgers) (queues : List (List Frame)) → IsStation st → length st.trunk.links ≡ length old.trunk.links → length kept ≡ length ordinals →
    IsParty (party_at old drawn ordinals gss queues) → IsParty (party_at st now kept gss queues)
whole-stepped old st drawn now ordinals kept gss queues whole same many is = record {
  station = whole;
  ordinals = many ∙ is.ordinals;
  ledgers = is.ledgers ∙ sym same;
  incoming = is.incoming ∙ sym same;
  few = is.few;
}

-- the front frame is taken out, and heard of
pub whole-taken : (old st : Station) (drawn : ℕ) (ordinals : List ℕ) (gss : List Ledgers) (queues : List (List Frame)) (i : ℕ) (gs : Ledgers) (queue : List Frame) → IsStation st → length st.trunk.links ≡ length old.trunk.links → length queue ≤ room →
    IsParty (party_at old drawn ordinals gss queues) → IsParty (party_at st drawn ordinals (set gss i gs) (set queues i queue))
whole-taken old st drawn ordinals gss queues i gs queue whole same few is = record {
  station = whole;
  ordinals = is.ordinals;
  ledgers = length-set gss i gs ∙ is.ledgers ∙ sym same;
  incoming = length-set queues i queue ∙ is.incoming ∙ sym same;
  few = all-set (λ queue. length queue ≤ room) queues i queue is.few few;
}

-- ---- what goes out

-- the station has stepped, and what goes out was posted
pub stepped-posted : (mark : ℕ) (step : Stepped) (old st : Station) (drawn : ℕ) (ordinals : List ℕ) (gss : List Ledgers) (queues : List (List Frame)) (other : Party) (told : Out) →
    step.station.terms ≡ old.terms → st ≡ step.station → told ≡ step.out →
    posted mark (record { station = st; out = told }) (record { own = party_at st drawn ordinals gss queues; other = other }) ≡ posted mark step (record { own = party_at old drawn ordinals gss queues; other = other })
stepped-posted mark step old st drawn ordinals gss queues other told terms st_is told_is =
    (λ i. posted mark (record { station = st_is i; out = told_is i }) (record { own = party_at (st_is i) drawn ordinals gss queues; other = other }))
    ∙ ap (λ t. posted mark step (record { own = party_at (record step.station { terms = t }) drawn ordinals gss queues; other = other })) terms

-- something that brings no frame
pub happened : (what : Happening) (l word : ℕ) (old st : Station) (drawn : ℕ) (ordinals : List ℕ) (gss : List Ledgers) (queues : List (List Frame)) (other : Party) (told : Out) →
    st ≡ (moves what l old word).station → told ≡ (moves what l old word).out →
    posted 0 (record { station = st; out = told }) (record { own = party_at st drawn ordinals gss queues; other = other }) ≡ happens what l word (record { own = party_at old drawn ordinals gss queues; other = other })
unfolding happens
happened what l word old st drawn ordinals gss queues other told st_is told_is = stepped-posted 0 (moves what l old word) old st drawn ordinals gss queues other told refl st_is told_is

-- the peer is asked, and the ordinal that was drawn is kept
pub asked-so : (l word : ℕ) (what : BapAsk) (old st : Station) (drawn now : ℕ) (ordinals kept : List ℕ) (gss : List Ledgers) (queues : List (List Frame)) (other : Party) (told : Out) →
    st ≡ (asks_peer l what old word).station → told ≡ (asks_peer l what old word).out →
    record { requests = old.requests; terms = old.terms; drawn = now; ordinals = kept } ≡ notes_ask (bundle_at l old.trunk.bundles) told.entries (record { requests = old.requests; terms = old.terms; drawn = drawn; ordinals = ordinals }) →
    posted (drawn + 1) (record { station = st; out = told }) (record { own = party_at st now kept gss queues; other = other }) ≡ asks l what word (record { own = party_at old drawn ordinals gss queues; other = other })
unfolding asks
asked-so l word what old st drawn now ordinals kept gss queues other told st_is told_is notes =
    let step = asks_peer l what old word in
    let own = party_at old drawn ordinals gss queues in
    stepped-posted (drawn + 1) step old st now kept gss queues other told refl st_is told_is
    ∙ ap (λ (c : Calls). posted (drawn + 1) step (record { own = record own { calls = c }; other = other })) (notes ∙ ap (λ (o : Out). notes_ask (bundle_at l old.trunk.bundles) o.entries own.calls) told_is)

-- it is told how a call went
pub told-so : (l status word : ℕ) (old st : Station) (drawn now : ℕ) (ordinals : List ℕ) (gss : List Ledgers) (queues : List (List Frame)) (other : Party) (told : Out) →
    st ≡ (tells_peer l status old word).station → told ≡ (tells_peer l status old word).out →
    record { requests = old.requests; terms = old.terms; drawn = now; ordinals = ordinals } ≡ notes_drawn told.entries (record { requests = old.requests; terms = old.terms; drawn = drawn; ordinals = ordinals }) →
    posted (drawn + 1) (record { station = st; out = told }) (record { own = party_at st now ordinals gss queues; other = other }) ≡ tells l status word (record { own = party_at old drawn ordinals gss queues; other = other })
unfolding tells
told-so l status word old st drawn now ordinals gss queues other told st_is told_is notes =
    let step = tells_peer l status old word in
    let own = party_at old drawn ordinals gss queues in
    stepped-posted (drawn + 1) step old st now ordinals gss queues other told refl st_is told_is
    ∙ ap (λ (c : Calls). posted (drawn + 1) step (record { own = record own { calls = c }; other = other })) (notes ∙ ap (λ (o : Out). notes_drawn o.entries own.calls) told_is)

-- the timer of BAP fires
pub tried-so : (l word mark : ℕ) (old st : Station) (drawn : ℕ) (ordinals : List ℕ) (gss : List Ledgers) (queues : List (List Frame)) (other : Party) (told : Out) →
    st ≡ (tries_again l old word).station → told ≡ (tries_again l old word).out → mark ≡ ordinal_if (bundle_timed l old.trunk) (record { requests = old.requests; terms = old.terms; drawn = drawn; ordinals = ordinals }) →
    posted mark (record { station = st; out = told }) (record { own = party_at st drawn ordinals gss queues; other = other }) ≡ tries l word (record { own = party_at old drawn ordinals gss queues; other = other })
unfolding tries
tried-so l word mark old st drawn ordinals gss queues other told st_is told_is mark_is =
    stepped-posted mark (tries_again l old word) old st drawn ordinals gss queues other told refl st_is told_is
    ∙ ap (λ m. posted m (tries_again l old word) (record { own = party_at old drawn ordinals gss queues; other = other })) mark_is

-- a frame is taken
heard-party : (st : Station) (drawn : ℕ) (ordinals : List ℕ) (gss : List Ledgers) (queues : List (List Frame)) (l at word : ℕ) (k : Link) (f : Frame) (rest front : List Frame) (gs heard : Ledgers) → at ≡ l - 1 → 1 ≤ l →
    slice_get gss (l - 1) ≡ Some gs → slice_get queues (l - 1) ≡ Some front → slice_get st.trunk.links (l - 1) ≡ Some k → heard ≡ heard_on k f word gs →
    party_at st drawn ordinals (set gss at heard) (set queues at rest) ≡ with_heard l word f rest (slice_get st.trunk.links (l - 1)) (party_at st drawn ordinals gss queues)
heard-party st drawn ordinals gss queues l at word k f rest front gs heard is low there waits link heard_is =
    (λ i. party_at st drawn ordinals
    ((ap (set gss at) heard_is ∙ ap (λ n. set gss n (heard_on k f word gs)) is ∙ sym (at-set (heard_on k f word) gss l gs low there)) i)
    ((ap (λ n. set queues n rest) is ∙ sym (at-set (λ queue. rest) queues l front low waits)) i))
    ∙ ap (λ o. with_heard l word f rest o (party_at st drawn ordinals gss queues)) (sym link)

-- what an end with that front frame is
module _ (st : Station) (drawn : ℕ) (ordinals : List ℕ) (gss : List Ledgers) (queues : List (List Frame)) (l at : ℕ) (front : List Frame) (is : at ≡ l - 1) (low : 1 ≤ l) (high : l ≤ length st.trunk.links)
    (whole : IsParty (party_at st drawn ordinals gss queues)) (lends : front ≡ get_or queues at front) where
  pub waiting : slice_get queues (l - 1) ≡ Some front
  waiting = lent-at queues at l front is low (omega (arith, high, whole.incoming)) lends

  -- the policy said yes or no where it was asked, and the frame was delivered
  pub delivered : (says : CallAsk → Bool → Type 0) (word : ℕ) (other : Party) (k : Link) (new : Station) (told : Out) (f : Frame) (rest : List Frame) (gs heard : Ledgers) (after : Ends) → front ≡ f ∷ rest → slice_get st.trunk.links (l - 1) ≡ Some k →
      (did : Taken says l f.octets word st new told) → gs ≡ get_or gss at gs → heard ≡ heard_on k f word gs → AreShort told.entries →
      after ≡ posted f.mark (record { station = new; out = told }) (record { own = party_at new drawn ordinals (set gss at heard) (set queues at rest); other = other }) →
      Delivered says l word (record { own = party_at st drawn ordinals gss queues; other = other }) after
  unfolding delivers
  delivered says word other k new told f rest gs heard after front_is link did there heard_is short after_is =
      let own = party_at st drawn ordinals gss queues in
      let step = hears did.allowed l f.octets st word in
      let ledgers : slice_get gss (l - 1) ≡ Some gs = lent-at gss at l gs is low (omega (arith, high, whole.ledgers)) there in
      let found : slice_get queues (l - 1) ≡ Some (f ∷ rest) = waiting ∙ ap (λ queue. Some queue) front_is in
      let same : step ≡ taken (λ question. did.allowed) l word f own = hears-answered did.allowed l f.octets st word in
      record {
        allowed = did.allowed;
        said = subst (λ o. IfAsked says (asked_for_front l word o own) did.allowed) (sym found) did.said;
        is = after_is
            ∙ stepped-posted f.mark step st new drawn ordinals (set gss at heard) (set queues at rest) other told refl did.station did.sent
            ∙ ap (λ p. posted f.mark step (record { own = p; other = other })) (heard-party st drawn ordinals gss queues l at word k f rest front gs heard is low ledgers waiting link heard_is)
            ∙ ap (λ x. posted f.mark x (record { own = with_heard l word f rest (slice_get st.trunk.links (l - 1)) own; other = other })) same
            ∙ ap (λ o. taking_front (λ question. did.allowed) l word o (record { own = own; other = other })) (sym found);
        short = λ g behind there.
            let both : Some (f ∷ rest) ≡ Some (g ∷ behind) = sym found ∙ there in
            let one : f ≡ g = cc in
            subst (λ g. AreShort (taken (λ question. did.allowed) l word g own).out.entries) one (subst (λ (x : Stepped). AreShort x.out.entries) same (subst (λ (o : Out). AreShort o.entries) did.sent short));
      }

  -- there was none
  pub undelivered : (says : CallAsk → Bool → Type 0) (word : ℕ) (other : Party) (rest : List Frame) (after : Ends) → front ≡ [] → rest ≡ [] →
      after ≡ record { own = party_at st drawn ordinals gss (set queues at rest); other = other } → Delivered says l word (record { own = party_at st drawn ordinals gss queues; other = other }) after
  unfolding delivers
  undelivered says word other rest after none left after_is =
      let own = party_at st drawn ordinals gss queues in
      let found : slice_get queues (l - 1) ≡ Some [] = waiting ∙ ap (λ queue. Some queue) none in
      record {
        allowed = false;
        said = subst (λ o. IfAsked says (asked_for_front l word o own) false) (sym found) tt;
        is = after_is
            ∙ ap (λ queues. record { own = party_at st drawn ordinals gss queues; other = other }) (ap (set queues at) (left ∙ sym none) ∙ set-lent queues at front lends)
            ∙ ap (λ o. taking_front (λ question. false) l word o (record { own = own; other = other })) (sym found);
        short = λ g behind there. let both : Some [] ≡ Some (g ∷ behind) = sym found ∙ there in absurd (cc);
      }
    where
      set-lent : (xs : List (List Frame)) (i : ℕ) (x : List Frame) → x ≡ get_or xs i x → set xs i x ≡ xs
      set-lent xs i x lends = ap (set xs i) lends ∙ set-get_or xs i x

  -- a frame is lost
  pub lost : (place : ℕ) (o : Party) (fewer : List Frame) → fewer ≡ without place front →
      record { own = party_at st drawn ordinals gss (set queues at fewer); other = o } ≡ loses l place (record { own = party_at st drawn ordinals gss queues; other = o })
  unfolding loses
  lost place o fewer fewer_is =
      ap (λ queues. record { own = party_at st drawn ordinals gss queues; other = o })
      (ap (set queues at) fewer_is ∙ ap (λ n. set queues n (without place front)) is ∙ sym (at-set (without place) queues l front low waiting))

-- ---- the oldest ordinal

pub oldest : (l at n : ℕ) (p : Proto) (own other : Party) (queue back : List Frame) (answered found : ℕ) → at ≡ l - 1 → 1 ≤ l → l ≤ length own.trunk.links → l ≤ length other.trunk.links → IsParty own → IsParty other →
    queue ≡ get_or own.incoming at queue → back ≡ get_or other.incoming at back → n ≡ sent_on l p own →
    answered ≡ least n (answers (only p queue)) → found ≡ least answered (requests (only p back)) → found ≡ oldest_on l p (record { own = own; other = other })
oldest l at n p own other queue back answered found is low high wide whole others lends gives n_is answered_is found_is =
    let waiting : slice_get own.incoming (l - 1) ≡ Some queue = lent-at own.incoming at l queue is low (omega (arith, high, whole.incoming)) lends in
    let sent : slice_get other.incoming (l - 1) ≡ Some back = lent-at other.incoming at l back is low (omega (arith, wide, others.incoming)) gives in
    found_is
    ∙ ap (λ n. least n (requests (only p back))) (answered_is ∙ ap (λ n. least n (answers (only p queue))) n_is)
    ∙ least-behind (sent_on l p own) (requests (only p back)) (answers (only p queue))
    ∙ (λ i. least (sent_on l p own) (requests (only p (queue_if (sym sent i))) ++ answers (only p (queue_if (sym waiting i)))))

-- the oldest of BAP, link by link
pub oldest-next : (i : ℕ) (own other : Party) (queue back : List Frame) (answered mark : ℕ) (best : Oldest) → i < length own.trunk.links → length other.trunk.links ≡ length own.trunk.links → IsParty own → IsParty other →
    queue ≡ get_or own.incoming i queue → back ≡ get_or other.incoming i back → answered ≡ least own.calls.drawn (bap_answers queue) → mark ≡ least answered (bap_requests back) →
    best ≡ bap_oldest_to i (record { own = own; other = other }) → older best mark (suc i) ≡ bap_oldest_to (suc i) (record { own = own; other = other })
oldest-next i own other queue back answered mark best less alike whole others lends gives answered_is mark_is best_is =
    let is : i ≡ suc i - 1 = omega arith in
    let waiting : slice_get own.incoming (suc i - 1) ≡ Some queue = lent-at own.incoming i (suc i) queue is (omega arith) (omega (arith, less, whole.incoming)) lends in
    let sent : slice_get other.incoming (suc i - 1) ≡ Some back = lent-at other.incoming i (suc i) back is (omega arith) (omega (arith, less, alike, others.incoming)) gives in
    let found : mark ≡ least own.calls.drawn (bap_marks_on (suc i) (record { own = own; other = other })) =
    mark_is
    ∙ ap (λ n. least n (bap_requests back)) answered_is
    ∙ least-behind own.calls.drawn (bap_requests back) (bap_answers queue)
    ∙ (λ k. least own.calls.drawn (bap_requests (queue_if (sym sent k)) ++ bap_answers (queue_if (sym waiting k)))) in
    (λ k. older (best_is k) (found k) (suc i))

-- ---- as an end begins

map-all : {X Y : Type 0} (y : Y) (xs : List X) → map (λ x. y) xs ≡ replicate (length xs) y
map-all y [] = refl
map-all y (x ∷ xs) = ap (λ ys. y ∷ ys) (map-all y xs)

pub all-same : {X Y Z : Type 0} (y : Y) (xs : List X) (zs : List Z) → length xs ≡ length zs → map (λ x. y) xs ≡ map (λ z. y) zs
all-same y xs zs same = map-all y xs ∙ ap (λ n. replicate n y) same ∙ sym (map-all y zs)

pub all-begun : {Y Z : Type 0} (y : Y) (n : ℕ) (zs : List Z) → n ≡ length zs → replicate n y ≡ map (λ z. y) zs
all-begun y n zs same = ap (λ n. replicate n y) same ∙ sym (map-all y zs)

none-few : {X : Type 0} (xs : List X) → AllByRecursion (λ queue. length queue ≤ room) (map {B = List Frame} (λ x. []) xs)
none-few [] = tt
none-few (x ∷ xs) = (omega arith, none-few xs)

pub whole-emptied : (f : Ledgers → Ledgers) (st : Station) (drawn now : ℕ) (ordinals kept : List ℕ) (before gss : List Ledgers) (waiting queues : List (List Frame)) → IsParty (party_at st drawn ordinals before waiting) → length kept ≡ BUNDLES →
    gss ≡ map f before → queues ≡ map (λ (queue : List Frame). []) waiting → IsParty (party_at st now kept gss queues)
whole-emptied f st drawn now ordinals kept before gss waiting queues is many changed emptied = record {
  station = is.station;
  ordinals = many;
  ledgers = ap length changed ∙ length-map before f ∙ is.ledgers;
  incoming = ap length emptied ∙ length-map waiting (λ (queue : List Frame). []) ∙ is.incoming;
  few = subst AreRoomy (sym emptied) (none-few waiting);
}

pub begun-emptied : (st : Station) (drawn : ℕ) (ordinals : List ℕ) (before gss : List Ledgers) (waiting queues : List (List Frame)) → IsParty (party_at st drawn ordinals before waiting) →
    gss ≡ map (λ (gs : Ledgers). ledgers_begun) before → queues ≡ map (λ (queue : List Frame). []) waiting →
    party_at st 0 (replicate BUNDLES 0) gss queues ≡ party_begun st
begun-emptied st drawn ordinals before gss waiting queues is changed emptied =
    (λ i. party_at st 0 (replicate BUNDLES 0)
    ((changed ∙ all-same ledgers_begun before st.trunk.links is.ledgers) i)
    ((emptied ∙ all-same [] waiting st.trunk.links is.incoming) i))

pub begun-all : (st : Station) (n : ℕ) (gss : List Ledgers) (queues : List (List Frame)) → n ≡ length st.trunk.links → gss ≡ replicate n ledgers_begun → queues ≡ replicate {A = List Frame} n [] →
    party_at st 0 (replicate BUNDLES 0) gss queues ≡ party_begun st
begun-all st n gss queues count ledgers incoming =
    (λ i. party_at st 0 (replicate BUNDLES 0) ((ledgers ∙ all-begun ledgers_begun n st.trunk.links count) i) ((incoming ∙ all-begun [] n st.trunk.links count) i))

-- it is whole
pub whole-begun : (st : Station) → IsStation st → IsParty (party_begun st)
whole-begun st is = record {
  station = is;
  ordinals = refl;
  ledgers = length-map st.trunk.links (λ (k : Link). ledgers_begun);
  incoming = length-map st.trunk.links (λ (k : Link). []);
  few = none-few st.trunk.links;
}

-- ---- an end begins anew

pub rebooted : (word : ℕ) (own other empty begun now later : Party) (st : Station) → st ≡ station_anew (station_of own) → begun ≡ party_begun st → empty ≡ cleared other →
    record { own = later; other = now } ≡ downs (length empty.trunk.links) 1 word (record { own = empty; other = begun }) →
    record { own = now; other = later } ≡ reboots word (record { own = own; other = other })
unfolding reboots
rebooted word own other empty begun now later st st_is begun_is empty_is is =
    ap turned is
    ∙ (λ i. turned (downs (length ((empty_is i).trunk.links)) 1 word (record { own = empty_is i; other = (begun_is ∙ ap party_begun st_is) i })))
