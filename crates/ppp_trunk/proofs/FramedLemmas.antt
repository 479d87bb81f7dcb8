-- What a trunk sends: frames of control protocols.
use Rattle.std.proofs.Common.{ℕ, Bool, true, false, if◌then◌else◌, List, [], ◌∷◌, ◌++◌, refl, Some}
use Rattle.std.specs.Prelude.{Option, None, ◌==◌, ◌||◌}
use Rattle.std.specs.List.{AllByRecursion}
use Rattle.ppp_auto.specs.Auto.{is_opened}
use Rattle.ppp_auto.specs.Outbox.{Entry as Told, Send, Signal}
use Rattle.ppp_auto.specs.declared.auto_event.AutoEvent.{AutoEvent}
use Rattle.ppp_auto.specs.declared.auto_event.AutoEvent.TheVariants.{Up, Down, AdminOpen, AdminClose, Timeout, RejectedWell, RejectedBadly}
use Rattle.ppp_auto.specs.declared.layer_signal.LayerSignal.{LayerSignal}
use Rattle.ppp_auto.specs.declared.layer_signal.LayerSignal.TheVariants as signal
use Rattle.ppp_frame.specs.declared.form.Form.{Form}
use Rattle.ppp_frame.specs.Deframer.{feed_step}
use Rattle.ppp_frame.specs.Header.{Read}
use Rattle.ppp_packet.specs.Proto.{proto_number, proto_of}
use Rattle.ppp_packet.specs.declared.proto.Proto.{Proto}
use Rattle.ppp_packet.specs.declared.proto.Proto.TheVariants.{Lcp, Ip, Ipv6, Osi, Mpls, Bacp}
use Rattle.ppp_link.specs.Automata.{cap_of, form_for, whole_form}
use Rattle.ppp_link.specs.Link.{Link, fed_with, read_by, run_did}
use Rattle.ppp_link.specs.LinkOut.{Entry as LinkTold}
use Rattle.ppp_link.specs.LinkOut as told
use Rattle.ppp_link.specs.LinkTables.{LinkTables}
use Rattle.ppp_link.specs.Steps.{Did, Given, Event, Packet as Octets, after, and_tells, begins, does, does_rejected, each_does, hears, hears_as, hears_other, hears_read, is_payload, reject_packet, rejected_if, rejects, run_by, runs as group, signal_told, takes, there, told_all, told_by}
use Rattle.ppp_trunk.specs.Control.{comes, goes}
use Rattle.ppp_trunk.specs.Trunk.{Trunk, stepped_by}
use Rattle.ppp_trunk.specs.StationOut.{Entry, Push, Got, Hang}
use Rattle.ppp_trunk.specs.Steps.{Happening, LineUp, LineDown, Opens, Closes, TimesOut, Takes, all_plain, link_does, with_link}
use Rattle.ppp_trunk.specs.Moves.{IsFrame, IsFramed, AreFramed}
use Rattle.ppp_trunk.proofs.ListLemmas.{AllByRecursion-append}
use Rattle.ppp_trunk.proofs.WalkLemmas.{IsKept, all-any, works-kept}

-- ---- the entries of a link

abbrev IsFramedPush : LinkTold → Type 0
IsFramedPush (told.Push octets) = IsFrame octets
IsFramedPush entry = Unit {0}

abbrev AllFramed : List LinkTold → Type 0
AllFramed es = AllByRecursion IsFramedPush es

framed-append : (xs ys : List LinkTold) → AllFramed xs → AllFramed ys → AllFramed (xs ++ ys)
framed-append xs ys first rest = AllByRecursion-append IsFramedPush xs ys first rest

signal-framed : (p : Proto) (told : LayerSignal) → AllFramed (signal_told p told)
signal-framed Lcp signal.Up = (tt, tt)
signal-framed Lcp signal.Down = (tt, tt)
signal-framed Lcp signal.Started = tt
signal-framed Lcp signal.Finished = (tt, tt)
signal-framed Lcp (signal.ProtocolRejected n) = tt
signal-framed Ip signal.Up = (tt, tt)
signal-framed Ip signal.Down = (tt, tt)
signal-framed Ip signal.Started = tt
signal-framed Ip signal.Finished = tt
signal-framed Ip (signal.ProtocolRejected n) = tt
signal-framed Ipv6 signal.Up = (tt, tt)
signal-framed Ipv6 signal.Down = (tt, tt)
signal-framed Ipv6 signal.Started = tt
signal-framed Ipv6 signal.Finished = tt
signal-framed Ipv6 (signal.ProtocolRejected n) = tt
signal-framed Osi signal.Up = (tt, tt)
signal-framed Osi signal.Down = (tt, tt)
signal-framed Osi signal.Started = tt
signal-framed Osi signal.Finished = tt
signal-framed Osi (signal.ProtocolRejected n) = tt
signal-framed Mpls signal.Up = (tt, tt)
signal-framed Mpls signal.Down = (tt, tt)
signal-framed Mpls signal.Started = tt
signal-framed Mpls signal.Finished = tt
signal-framed Mpls (signal.ProtocolRejected n) = tt
signal-framed Bacp signal.Up = (tt, tt)
signal-framed Bacp signal.Down = (tt, tt)
signal-framed Bacp signal.Started = tt
signal-framed Bacp signal.Finished = tt
signal-framed Bacp (signal.ProtocolRejected n) = tt

told-framed : (form : Form) (p : Proto) (es : List Told) → AllFramed (told_all form p es)
told-framed form p [] = tt
told-framed form p (Send octets ∷ es) = (record { form = form; proto = p; info = octets; is = refl }, told-framed form p es)
told-framed form p (Signal told ∷ es) = framed-append (signal_told p told) (told_all form p es) (signal-framed p told) (told-framed form p es)

does-framed : (t : LinkTables) (q : Proto) (given : Given) (word : ℕ) (did : Did) → AllFramed did.out → AllFramed (does t q given word did).out
unfolding does
does-framed t q given word did all =
    let form = form_for (after t q given word did.automata).lcp q in
    let es = told_by t q given word did.automata in
    framed-append did.out (told_all form q es) all (told-framed form q es)

each-framed : (t : LinkTables) (ps : List Proto) (event : AutoEvent) (word : ℕ) (did : Did) → AllFramed did.out → AllFramed (each_does t ps event word did).out
unfolding each_does
each-framed t [] event word did all = all
each-framed t (p ∷ ps) event word did all = each-framed t ps event word (does t p (Event event) word did) (does-framed t p (Event event) word did all)

rejected-framed : (t : LinkTables) (o : Option Proto) (word : ℕ) (did : Did) → AllFramed did.out → AllFramed (does_rejected t o word did).out
rejected-framed t (Some q) word did all = does-framed t q (Event RejectedBadly) word did all
rejected-framed t None word did all = does-framed t Lcp (Event RejectedWell) word did all

if-framed : (t : LinkTables) (o : Option ℕ) (word : ℕ) (did : Did) → AllFramed did.out → AllFramed (rejected_if t o word did).out
unfolding rejected_if
if-framed t None word did all = all
if-framed t (Some number) word did all = rejected-framed t (there did.automata (proto_of number)) word did all

takes-framed : (t : LinkTables) (q : Proto) (octets : List ℕ) (word : ℕ) (did : Did) → AllFramed did.out → AllFramed (takes t q octets word did).out
unfolding takes
takes-framed t q octets word did all = if-framed t _ word (does t q (Octets octets) word did) (does-framed t q (Octets octets) word did all)

other-framed : (t : LinkTables) (number : ℕ) (info : List ℕ) (did : Did) (b : Bool) → AllFramed did.out →
    AllFramed (if b then and_tells did (told.Payload number info) else rejects number info did).out
unfolding rejects
other-framed t number info did true all = framed-append did.out _ all (tt, tt)
other-framed t number info did false all =
    framed-append did.out _ all (record { form = whole_form; proto = Lcp; info = reject_packet did.automata.reject_id (cap_of did.automata.lcp) number info; is = refl }, tt)

as-framed : (t : LinkTables) (o : Option Proto) (number : ℕ) (info : List ℕ) (word : ℕ) (did : Did) → AllFramed did.out → AllFramed (hears_as t o number info word did).out
unfolding hears_other
as-framed t (Some q) number info word did all = takes-framed t q info word did all
as-framed t None number info word did all = other-framed t number info did (is_payload t did.automata number) all

frame-framed : (t : LinkTables) (o : Option Proto) (number : ℕ) (info : List ℕ) (word : ℕ) (did : Did) (b : Bool) → AllFramed did.out →
    AllFramed (if b then hears_as t o number info word did else did).out
frame-framed t o number info word did true all = as-framed t o number info word did all
frame-framed t o number info word did false all = all

read-framed : (t : LinkTables) (o : Option Read) (word : ℕ) (did : Did) → AllFramed did.out → AllFramed (hears_read t o word did).out
unfolding hears
read-framed t None word did all = all
read-framed t (Some read) word did all =
    frame-framed t (there did.automata (proto_of read.protocol)) read.protocol read.info word did ((read.protocol == proto_number Lcp) || is_opened did.automata.lcp.state) all

link-framed : (what : Happening) (k : Link) (word : ℕ) → AllFramed (link_does what k word).out
unfolding fed_with
link-framed LineUp k word = does-framed k.tables Lcp (Event Up) word (begins k.automata) tt
link-framed LineDown k word = does-framed k.tables Lcp (Event Down) word (begins k.automata) tt
link-framed (Opens q) k word = does-framed k.tables q (Event AdminOpen) word (begins k.automata) tt
link-framed (Closes q) k word = does-framed k.tables q (Event AdminClose) word (begins k.automata) tt
link-framed (TimesOut q) k word = does-framed k.tables q (Event Timeout) word (begins k.automata) tt
link-framed (Takes octets) k word = read-framed k.tables (feed_step (read_by k.automata.lcp k.deframer) octets).left.frame word (begins k.automata) tt

-- ---- the entries of a trunk

framed-more : (xs ys : List Entry) → AreFramed xs → AreFramed ys → AreFramed (xs ++ ys)
framed-more xs ys first rest = AllByRecursion-append IsFramed xs ys first rest

plain-framed : (l : ℕ) (es : List LinkTold) → AllFramed es → AreFramed (all_plain l es)
plain-framed l [] all = tt
plain-framed l (told.Push octets ∷ es) all = (all.0, plain-framed l es all.1)
plain-framed l (told.LcpUp ∷ es) all = plain-framed l es all.1
plain-framed l (told.LcpDown ∷ es) all = plain-framed l es all.1
plain-framed l (told.Finished ∷ es) all = plain-framed l es all.1
plain-framed l (told.NetUp q ∷ es) all = plain-framed l es all.1
plain-framed l (told.NetDown q ∷ es) all = plain-framed l es all.1
plain-framed l (told.Payload number octets ∷ es) all = plain-framed l es all.1

-- it is kept while entries are worked off
frames-kept : (l word : ℕ) → IsKept l word IsFramedPush (λ r. Unit {0}) (λ done. AreFramed done.out)
frames-kept l word = record {
  pushed = λ done octets is all. framed-more done.out (Push l octets ∷ []) all (is, tt);
  handed = λ done number octets all. framed-more done.out (Got None number octets ∷ []) all (tt, tt);
  hung = λ done all. framed-more done.out (Hang l ∷ []) all (tt, tt);
  moved = λ done b all. all;
  ran = λ done r k is at all.
      let did = run_did k r.on r.bacp word in
      framed-more done.out (all_plain r.link did.out) all (plain-framed r.link did.out (each-framed k.tables (group r.bacp) (run_by r.on) word (begins k.automata) tt));
  came = λ key b. all-any (λ r. Unit {0}) (λ r. tt) (comes l key b).runs;
  went = λ b. all-any (λ r. Unit {0}) (λ r. tt) (goes l b).runs;
}

pub framed-by : (what : Happening) (l word : ℕ) (st : Trunk) (o : Option Link) → AreFramed (stepped_by what l st word o).out.entries
framed-by what l word st None = tt
framed-by what l word st (Some k) =
    let fed = link_does what k word in
    works-kept l word IsFramedPush (λ r. Unit {0}) (λ done. AreFramed done.out) (frames-kept l word)
    fed.out (record { links = with_link l fed.link st.links; bundles = st.bundles; out = [] }) (link-framed what k word) tt
