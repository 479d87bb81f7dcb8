-- A packet of BAP comes only where BACP is Opened on the control link of its bundle.
use Rattle.std.proofs.Common.{◌≡◌, ◌≢◌, ◌∙◌, ◌+◌, ◌-◌, ℕ, Bool, true, false, List, [], ◌∷◌, ◌++◌, length, refl, sym, subst, ap, arith, true≢false}
use Rattle.std.specs.Prelude.{Option, Some, None, ◌==◌, ◌||◌, not, if◌then◌else◌, option_map, slice_get}
use Rattle.std.specs.List.{AllByRecursion, find}
use Rattle.ppp_auto.specs.Auto.{Auto, is_off, is_opened}
use Rattle.ppp_auto.specs.Outbox.{Entry as Told, Send, Signal}
use Rattle.ppp_auto.specs.declared.auto_event.AutoEvent.TheVariants.{RejectedBadly, RejectedWell}
use Rattle.ppp_auto.specs.declared.auto_state.AutoState.{AutoState}
use Rattle.ppp_auto.specs.declared.auto_state.AutoState.TheVariants.{Initial, Starting, Closed, Stopped, Closing, Stopping, ReqSent, AckRcvd, AckSent, Opened}
use Rattle.ppp_auto.specs.declared.layer_signal.LayerSignal.{LayerSignal}
use Rattle.ppp_auto.specs.declared.layer_signal.LayerSignal.TheVariants as signal
use Rattle.ppp_bundle.specs.Bundles.{bundle_at, control_of}
use Rattle.ppp_frame.specs.Deframer.{feed_step}
use Rattle.ppp_frame.specs.Header.{Read}
use Rattle.ppp_frame.specs.declared.form.Form.{Form}
use Rattle.ppp_link.specs.Automata.{Automata, auto_at, form_for}
use Rattle.ppp_link.specs.Link.{Fed, Link, fed_with, read_by, run_did}
use Rattle.ppp_link.specs.LinkOut.{Entry as LinkTold, Push, LcpUp, LcpDown, Finished, NetUp, NetDown, Payload}
use Rattle.ppp_link.specs.LinkTables.{LinkTables}
use Rattle.ppp_link.specs.Steps.{Did, Event, Given, Packet, after, and_tells, begins, does, does_rejected, hears, hears_as, hears_other, hears_read, is_payload, net_told, rejected_if, rejects, signal_told, takes, there, told_all, told_by}
use Rattle.ppp_packet.specs.Proto.{proto_number, proto_of}
use Rattle.ppp_packet.specs.declared.proto.Proto.{Proto}
use Rattle.ppp_packet.specs.declared.proto.Proto.TheVariants.{Lcp, Ip, Ipv6, Osi, Mpls, Bacp}
use Rattle.ppp_trunk.specs.Control.{Run, comes, goes, key_in}
use Rattle.ppp_trunk.specs.Phases.{IsPhased, IsTrunk, IsUpWhere, is_up, is_up_by}
use Rattle.ppp_trunk.specs.StationOut.{Asked, Dial, Entry, Got, Hang}
use Rattle.ppp_trunk.specs.StationOut as station
use Rattle.ppp_trunk.specs.Steps.{Done, Takes, all_plain, comes_up, follows, hands_up, is_opened_at, is_opened_control, is_opened_on, is_taken, runs, runs_all, runs_at, with_link, works, works_one}
use Rattle.ppp_trunk.specs.Steps as steps
use Rattle.ppp_trunk.specs.Trunk.{IsOfLink, Trunk, on_link, stepped_by}
use Rattle.ppp_trunk.specs.declared.steps.TheConstants.{BAP}
use Rattle.ppp_trunk.proofs.ListLemmas.{AllByRecursion-append}
use Rattle.ppp_trunk.proofs.MovesLemmas.{counts}
use Rattle.ppp_station.specs.Heard.{IsHeard, IsLive}
use Rattle.ppp_station.specs.Steps.{bap_packet, is_bap, octets_got}
use Rattle.ppp_station.proofs.BringLemmas.{same-some}
use Rattle.ppp_station.proofs.SoundLemmas.{kept-by, link-at}

-- ---- what a link tells that is no payload

abbrev IsSignal : LinkTold → Type 0
IsSignal (Push octets) = Unit {0}
IsSignal LcpUp = Unit {0}
IsSignal LcpDown = Unit {0}
IsSignal Finished = Unit {0}
IsSignal (NetUp p) = Unit {0}
IsSignal (NetDown p) = Unit {0}
IsSignal (Payload number octets) = ⊥

abbrev AreSignals : List LinkTold → Type 0
AreSignals es = AllByRecursion IsSignal es

signals-more : (xs ys : List LinkTold) → AreSignals xs → AreSignals ys → AreSignals (xs ++ ys)
signals-more xs ys first rest = AllByRecursion-append IsSignal xs ys first rest

net-signals : (p : Proto) (told : LayerSignal) → AreSignals (net_told p told)
net-signals p signal.Up = (tt, tt)
net-signals p signal.Down = (tt, tt)
net-signals p signal.Started = tt
net-signals p signal.Finished = tt
net-signals p (signal.ProtocolRejected n) = tt

signal-signals : (p : Proto) (told : LayerSignal) → AreSignals (signal_told p told)
signal-signals Lcp signal.Up = (tt, tt)
signal-signals Lcp signal.Down = (tt, tt)
signal-signals Lcp signal.Started = tt
signal-signals Lcp signal.Finished = (tt, tt)
signal-signals Lcp (signal.ProtocolRejected n) = tt
signal-signals Ip told = net-signals Ip told
signal-signals Ipv6 told = net-signals Ipv6 told
signal-signals Osi told = net-signals Osi told
signal-signals Mpls told = net-signals Mpls told
signal-signals Bacp told = net-signals Bacp told

told-signals : (form : Form) (p : Proto) (es : List Told) → AreSignals (told_all form p es)
told-signals form p [] = tt
told-signals form p (Send octets ∷ es) = (tt, told-signals form p es)
told-signals form p (Signal told ∷ es) = signals-more (signal_told p told) (told_all form p es) (signal-signals p told) (told-signals form p es)

does-signals : (t : LinkTables) (q : Proto) (given : Given) (word : ℕ) (did : Did) → AreSignals did.out → AreSignals (does t q given word did).out
unfolding does
does-signals t q given word did all =
    let form = form_for (after t q given word did.automata).lcp q in
    let es = told_by t q given word did.automata in
    signals-more did.out (told_all form q es) all (told-signals form q es)

rejected-signals : (t : LinkTables) (o : Option Proto) (word : ℕ) (did : Did) → AreSignals did.out → AreSignals (does_rejected t o word did).out
rejected-signals t (Some q) word did all = does-signals t q (Event RejectedBadly) word did all
rejected-signals t None word did all = does-signals t Lcp (Event RejectedWell) word did all

if-signals : (t : LinkTables) (o : Option ℕ) (word : ℕ) (did : Did) → AreSignals did.out → AreSignals (rejected_if t o word did).out
unfolding rejected_if
if-signals t None word did all = all
if-signals t (Some number) word did all = rejected-signals t (there did.automata (proto_of number)) word did all

takes-signals : (t : LinkTables) (q : Proto) (octets : List ℕ) (word : ℕ) (did : Did) → AreSignals did.out → AreSignals (takes t q octets word did).out
unfolding takes
takes-signals t q octets word did all = if-signals t _ word (does t q (Packet octets) word did) (does-signals t q (Packet octets) word did all)

-- a frame tells signals, or one payload and nothing else
data IsFed (k : Automata) : Did → Type 0 where
  signals : (did : Did) → AreSignals did.out → IsFed k did
  payload : (number : ℕ) (info : List ℕ) → IsFed k (record { automata = k; out = Payload number info ∷ [] })

other-fed : (t : LinkTables) (number : ℕ) (info : List ℕ) (k : Automata) (b : Bool) → IsFed k (if b then and_tells (begins k) (Payload number info) else rejects number info (begins k))
unfolding rejects
other-fed t number info k true = payload number info
other-fed t number info k false = signals _ (tt, tt)

as-fed : (t : LinkTables) (o : Option Proto) (number : ℕ) (info : List ℕ) (word : ℕ) (k : Automata) → IsFed k (hears_as t o number info word (begins k))
unfolding hears_other
as-fed t (Some q) number info word k = signals _ (takes-signals t q info word (begins k) tt)
as-fed t None number info word k = other-fed t number info k (is_payload t k number)

frame-fed : (t : LinkTables) (o : Option Proto) (number : ℕ) (info : List ℕ) (word : ℕ) (k : Automata) (b : Bool) → IsFed k (if b then hears_as t o number info word (begins k) else begins k)
frame-fed t o number info word k true = as-fed t o number info word k
frame-fed t o number info word k false = signals _ tt

read-fed : (t : LinkTables) (o : Option Read) (word : ℕ) (k : Automata) → IsFed k (hears_read t o word (begins k))
unfolding hears
read-fed t None word k = signals _ tt
read-fed t (Some read) word k =
    frame-fed t (there k (proto_of read.protocol)) read.protocol read.info word k ((read.protocol == proto_number Lcp) || is_opened k.lcp.state)

-- ---- signals hand nothing up

-- no entry is a packet of BAP
abbrev IsNone : Entry → Type 0
IsNone e = is_bap e ≡ false

abbrev AreNone : List Entry → Type 0
AreNone es = AllByRecursion IsNone es

none-more : (es more : List Entry) → AreNone es → AreNone more → AreNone (es ++ more)
none-more es more first rest = AllByRecursion-append IsNone es more first rest

none-found : (es : List Entry) → AreNone es → bap_packet es ≡ None
none-found [] all = refl
none-found (e ∷ es) all = ap (λ (b : Bool). option_map octets_got (if b then Some e else find is_bap es)) all.0 ∙ none-found es all.1

plain-none : (l : ℕ) (es : List LinkTold) → AreNone (all_plain l es)
plain-none l [] = tt
plain-none l (Push octets ∷ es) = (refl, plain-none l es)
plain-none l (LcpUp ∷ es) = plain-none l es
plain-none l (LcpDown ∷ es) = plain-none l es
plain-none l (Finished ∷ es) = plain-none l es
plain-none l (NetUp q ∷ es) = plain-none l es
plain-none l (NetDown q ∷ es) = plain-none l es
plain-none l (Payload number octets ∷ es) = plain-none l es

run-none : (r : Run) (word : ℕ) (o : Option Link) (done : Done) → AreNone done.out → AreNone (runs_at r word o done).out
run-none r word None done all = all
run-none r word (Some k) done all = none-more done.out _ all (plain-none r.link (run_did k r.on r.bacp word).out)

all-none : (word : ℕ) (rs : List Run) (done : Done) → AreNone done.out → AreNone (runs_all word rs done).out
unfolding runs_all runs
all-none word [] done all = all
all-none word (r ∷ rs) done all = all-none word rs (runs word r done) (run-none r word (slice_get done.links (r.link - 1)) done all)

up-none : (l word : ℕ) (o : Option Link) (done : Done) → AreNone done.out → AreNone (comes_up l word o done).out
up-none l word None done all = all
up-none l word (Some k) done all =
    let m = comes l (key_in k.automata.lcp) done.bundles in all-none word m.runs (record done { bundles = m.bundles }) all

one-none : (l word : ℕ) (e : LinkTold) (done : Done) → IsSignal e → AreNone done.out → AreNone (works_one l word e done).out
unfolding works_one
one-none l word (Push octets) done is all = none-more done.out (station.Push l octets ∷ []) all (refl, tt)
one-none l word LcpUp done is all = up-none l word (slice_get done.links (l - 1)) done all
one-none l word LcpDown done is all = let m = goes l done.bundles in all-none word m.runs (record done { bundles = m.bundles }) all
one-none l word Finished done is all = none-more done.out (Hang l ∷ []) all (refl, tt)
one-none l word (NetUp p) done is all = all
one-none l word (NetDown p) done is all = all
one-none l word (Payload number octets) done is all = absurd is

works-none : (l word : ℕ) (es : List LinkTold) (done : Done) → AreSignals es → AreNone done.out → AreNone (works l word es done).out
unfolding works
works-none l word [] done are all = all
works-none l word (e ∷ es) done are all = works-none l word es (works_one l word e done) are.1 (one-none l word e done are.0 all)

-- ---- a payload is handed up where BACP is Opened on the link

-- the trunk then, and what it handed up
record HeardOn (l : ℕ) (done : Done) : Type 0 where
  heard : (octets : List ℕ) → bap_packet done.out ≡ Some octets → is_opened_on done.links l (Some Bacp) ≡ true

bap-heard : (l number : ℕ) (octets : List ℕ) (done : Done) (b : Bool) → done.out ≡ [] → (number == BAP) ≡ true → is_opened_on done.links l (Some Bacp) ≡ b →
    HeardOn l (if b then steps.and_tells done (Got None number octets) else done)
bap-heard l number octets done true none bap is = record { heard = λ xs found. is }
bap-heard l number octets done false none bap is = record { heard = λ xs found. absurd (none-some xs (ap bap_packet (sym none) ∙ found)) } where
  none-some : (xs : List ℕ) → ◌≡◌ {A = Option (List ℕ)} None (Some xs) → ⊥
  none-some xs e = cc

other-heard : (l number : ℕ) (octets : List ℕ) (done : Done) (b : Bool) → done.out ≡ [] → (number == BAP) ≡ false →
    HeardOn l (if b then steps.and_tells done (Got None number octets) else done)
other-heard l number octets done b none other = record { heard = λ xs found. absurd (none-some xs (sym (none-found _ (by b)) ∙ found)) } where
  none-some : (xs : List ℕ) → ◌≡◌ {A = Option (List ℕ)} None (Some xs) → ⊥
  none-some xs e = cc

  by : (b : Bool) → AreNone (if b then steps.and_tells done (Got None number octets) else done).out
  by true = none-more done.out (Got None number octets ∷ []) (subst AreNone (sym none) tt) (other, tt)
  by false = subst AreNone (sym none) tt

hands-heard : (l number : ℕ) (octets : List ℕ) (done : Done) → done.out ≡ [] → HeardOn l (hands_up l number octets done)
hands-heard l number octets done none = by (number == BAP) refl where
  by : (b : Bool) → (number == BAP) ≡ b → HeardOn l (hands_up l number octets done)
  by true e =
      let taken : is_taken done.links l number done.bundles ≡ is_opened_on done.links l (Some Bacp) =
      ap (λ (b : Bool). if b then is_opened_on done.links l (Some Bacp) else steps.is_opened_for done.links l number done.bundles) e in
      subst (λ (b : Bool). HeardOn l (if b then steps.and_tells done (Got None number octets) else done)) (sym taken) (bap-heard l number octets done _ none e refl)
  by false e = other-heard l number octets done (is_taken done.links l number done.bundles) none e

-- ---- a step of the links

fed-did : Fed → Did
fed-did fed = record { automata = fed.link.automata; out = fed.out }

works-heard : (l word : ℕ) (k : Automata) (did : Did) (done : Done) → IsFed k did → done.out ≡ [] → HeardOn l (works l word did.out done)
unfolding works works_one
works-heard l word k did done (signals d all) none = record { heard = λ xs found. absurd (none-some xs (sym (none-found _ (works-none l word did.out done all (subst AreNone (sym none) tt))) ∙ found)) } where
  none-some : (xs : List ℕ) → ◌≡◌ {A = Option (List ℕ)} None (Some xs) → ⊥
  none-some xs e = cc
works-heard l word k did done (payload number info) none = hands-heard l number info done none

on-heard : (l word : ℕ) (octets : List ℕ) (st : Trunk) (o : Option Link) → (xs : List ℕ) → bap_packet (stepped_by (Takes octets) l st word o).out.entries ≡ Some xs →
    is_opened_on (stepped_by (Takes octets) l st word o).trunk.links l (Some Bacp) ≡ true
unfolding fed_with
on-heard l word octets st None xs found = absurd (none-some found) where
  none-some : ◌≡◌ {A = Option (List ℕ)} None (Some xs) → ⊥
  none-some e = cc
on-heard l word octets st (Some k) xs found =
    let step = feed_step (read_by k.automata.lcp k.deframer) octets in
    let did = hears_read k.tables step.left.frame word (begins k.automata) in
    let link : Link = record { tables = k.tables; automata = did.automata; deframer = step.left } in
    (works-heard l word k.automata did (record { links = with_link l link st.links; bundles = st.bundles; out = [] }) (read-fed k.tables step.left.frame word k.automata) refl).heard xs found

-- ---- and there it is the control link's

up-state : (s : AutoState) (up : Bool) → is_opened s ≡ true → is_off s ≡ not up → up ≡ true
up-state Opened true opened off = refl
up-state Opened false opened off = absurd (true≢false (sym off))
up-state Initial up opened off = absurd (true≢false (sym opened))
up-state Starting up opened off = absurd (true≢false (sym opened))
up-state Closed up opened off = absurd (true≢false (sym opened))
up-state Stopped up opened off = absurd (true≢false (sym opened))
up-state Closing up opened off = absurd (true≢false (sym opened))
up-state Stopping up opened off = absurd (true≢false (sym opened))
up-state ReqSent up opened off = absurd (true≢false (sym opened))
up-state AckRcvd up opened off = absurd (true≢false (sym opened))
up-state AckSent up opened off = absurd (true≢false (sym opened))

up-where : (o : Option Auto) (up : Bool) → steps.opened_if o ≡ true → IsUpWhere up o → up ≡ true
up-where None up opened is = absurd (true≢false (sym opened))
up-where (Some a) up opened is = up-state a.state up opened is

bacp-other : Bacp ≢ Lcp
bacp-other e = cc

phased-at : (i : ℕ) (k : Link) (t : Trunk) → slice_get t.links i ≡ Some k → IsTrunk t → steps.opened_if (auto_at k.automata Bacp) ≡ true → is_up Bacp (i + 1) (is_opened k.automata.lcp.state) t.bundles ≡ true
unfolding IsTrunk IsPhased
phased-at i k t at trunk opened = up-where (auto_at k.automata Bacp) _ opened (trunk.phased i k at Bacp bacp-other)

live-by : (l : ℕ) (o : Option ℕ) (k : Link) (t : Trunk) → is_opened_on t.links l (Some Bacp) ≡ true → is_up_by o Bacp l (is_opened k.automata.lcp.state) t.bundles ≡ true → IsLive o t
live-by l None k t opened up = tt
live-by l (Some b) k t opened up =
    let control : control_of b t.bundles ≡ Some l = same-some (control_of b t.bundles) l up in
    ap (λ o. is_opened_control t.links o (Some Bacp)) control ∙ opened

pub live-at : (l : ℕ) (t : Trunk) → IsTrunk t → IsOfLink (length t.links) l → is_opened_on t.links l (Some Bacp) ≡ true → IsLive (bundle_at l t.bundles) t
live-at l t trunk of opened =
    let k = link-at t.links l of in
    let at : l - 1 + 1 ≡ l = omega (arith, of.0) in
    let here : steps.opened_if (auto_at k.0.automata Bacp) ≡ true = ap (λ o. is_opened_at o (Some Bacp)) (sym k.1) ∙ opened in
    live-by l (bundle_at l t.bundles) k.0 t opened (ap (λ m. is_up Bacp m (is_opened k.0.automata.lcp.state) t.bundles) (sym at) ∙ phased-at (l - 1) k.0 t k.1 trunk here)

heard-by : (l : ℕ) (p : Option (List ℕ)) (t : Trunk) → ((xs : List ℕ) → p ≡ Some xs → IsLive (bundle_at l t.bundles) t) → IsHeard l p t
heard-by l None t h = tt
heard-by l (Some xs) t h = h xs refl

-- a packet that came is heard where BACP is Opened
pub heard-live : (l word : ℕ) (octets : List ℕ) (t : Trunk) → IsOfLink (length t.links) l → IsTrunk t →
    let now = on_link (Takes octets) l t word in IsHeard l (bap_packet now.out.entries) now.trunk
heard-live l word octets t of trunk =
    let now = on_link (Takes octets) l t word in
    heard-by l (bap_packet now.out.entries) now.trunk
    (λ xs found. live-at l now.trunk (kept-by (Takes octets) l word t of trunk) (subst (λ n. IsOfLink n l) (sym (counts (Takes octets) l word t)) of)
    (on-heard l word octets t (slice_get t.links (l - 1)) xs found))
