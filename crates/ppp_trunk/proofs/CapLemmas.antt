-- Every automaton of a link has the cap that LCP grants: no row changes a cap, and all are set after a row of LCP.
use Rattle.std.proofs.Common.{◌≡◌, ℕ, zero, suc, ◌+◌, ◌-◌, ◌%◌, Bool, true, false, if◌then◌else◌, List, [], ◌∷◌, ◌++◌, refl, sym, subst, ◌∙◌, inl, inr, Some, slice_get}
use Rattle.std.specs.Prelude.{◌⊎◌, ◌==◌, ◌||◌, Option, None, option_map}
use Rattle.std.specs.List.{AllByRecursion}
use Rattle.ppp_packet.specs.Proto.{proto_number, proto_of}
use Rattle.ppp_packet.specs.declared.proto.Proto.{Proto}
use Rattle.ppp_packet.specs.declared.proto.Proto.TheVariants.{Lcp, Ip, Ipv6, Osi, Mpls, Bacp}
use Rattle.ppp_auto.specs.declared.auto_event.AutoEvent.{AutoEvent}
use Rattle.ppp_auto.specs.declared.auto_event.AutoEvent.TheVariants.{Up, Down, AdminOpen, AdminClose, Timeout, RejectedWell, RejectedBadly}
use Rattle.ppp_auto.specs.declared.input.Input.{Input}
use Rattle.ppp_auto.specs.Auto.{Auto, is_opened}
use Rattle.ppp_auto.specs.Automaton.{acts_on, does_row, take_read}
use Rattle.ppp_auto.specs.OptionTable.{Table}
use Rattle.ppp_auto.specs.Packet.{Packet, packet_of}
use Rattle.ppp_auto.specs.Taken.{Taken, input_of, kind, taken_as}
use Rattle.ppp_auto.specs.declared.auto.TheConstants.{MOST_CAP}
use Rattle.ppp_frame.specs.Deframer.{feed_step}
use Rattle.ppp_frame.specs.Header.{Read}
use Rattle.ppp_link.specs.Automata.{Automata, auto_at, begun_if, cap_of, changed, with_cap}
use Rattle.ppp_link.specs.Link.{Link, fed_with, link_begun, link_with, read_by, run_did}
use Rattle.ppp_link.specs.LinkOut.{Payload}
use Rattle.ppp_link.specs.LinkTables.{LinkTables, bacp_table, ip_table, ipv6_table, mpls_table, osi_table, table_of}
use Rattle.ppp_link.specs.Proto.{nets}
use Rattle.ppp_link.specs.Steps.{Did, Given, Event, Packet as Octets, after, and_tells, auto_given, begins, capped, does, does_rejected, each_does, hears, hears_as, hears_other, hears_read, is_payload, rejected_if, rejected_in, rejects, run_by, runs as group, takes, there, told_by}
use Rattle.ppp_trunk.specs.Caps.{AreCapped, IsCapped, IsCappedAt}
use Rattle.ppp_trunk.specs.Control.{comes, goes}
use Rattle.ppp_trunk.specs.Trunk.{IsBegun, IsReady, Trunk, link_ready, on_link, opens_all, stepped_by}
use Rattle.ppp_trunk.specs.Steps.{Happening, LineUp, LineDown, Opens, Closes, TimesOut, Takes, link_does, with_link}
use Rattle.ppp_trunk.proofs.LinksLemmas.{with-either}
use Rattle.ppp_trunk.proofs.WalkLemmas.{IsKept, all-any, works-kept}

-- ---- one automaton

acts-cap : (t : Table) (a : Auto) (taken : Taken) (o : Option Input) (word : ℕ) → (acts_on t a taken o word).auto.cap ≡ a.cap
unfolding does_row
acts-cap t a taken None word = refl
acts-cap t a taken (Some input) word = refl

read-cap : (t : Table) (a : Auto) (o : Option Packet) (word : ℕ) → (take_read t a o word).auto.cap ≡ a.cap
read-cap t a None word = refl
read-cap t a (Some packet) word = let taken = kind t a packet word in acts-cap t a taken taken.input word

given-cap : (t : Table) (given : Given) (word : ℕ) (a : Auto) → (auto_given t given word a).cap ≡ a.cap
given-cap t (Event event) word a = let input = input_of a event in acts-cap t a (taken_as a (Some input) 0) (Some input) word
given-cap t (Octets octets) word a = read-cap t a (packet_of octets) word

keeps-cap : (t : Table) (given : Given) (word cap : ℕ) (o : Option Auto) → IsCappedAt cap o → IsCappedAt cap (option_map (auto_given t given word) o)
keeps-cap t given word cap None is = tt
keeps-cap t given word cap (Some a) is = given-cap t given word a ∙ is

takes-cap : (cap : ℕ) (o : Option Auto) → IsCappedAt cap (option_map (with_cap cap) o)
takes-cap cap None = tt
takes-cap cap (Some a) = refl

-- ---- the automata of a link

-- what holds of each protocol
each : (P : Proto → Type 0) → P Lcp → P Ip → P Ipv6 → P Osi → P Mpls → P Bacp → (p : Proto) → P p
each P lcp ip ipv6 osi mpls bacp Lcp = lcp
each P lcp ip ipv6 osi mpls bacp Ip = ip
each P lcp ip ipv6 osi mpls bacp Ipv6 = ipv6
each P lcp ip ipv6 osi mpls bacp Osi = osi
each P lcp ip ipv6 osi mpls bacp Mpls = mpls
each P lcp ip ipv6 osi mpls bacp Bacp = bacp

set-capped : (k : Automata) → IsCapped (capped k)
unfolding IsCapped
set-capped k =
    let cap = cap_of k.lcp in
    each (λ p. IsCappedAt cap (auto_at (capped k) p)) refl (takes-cap cap k.ip) (takes-cap cap k.ipv6) (takes-cap cap k.osi) (takes-cap cap k.mpls) (takes-cap cap k.bacp)

after-capped : (t : LinkTables) (q : Proto) (given : Given) (word : ℕ) (k : Automata) → IsCapped k → IsCapped (after t q given word k)
unfolding IsCapped
after-capped t Lcp given word k is = set-capped (changed k Lcp (auto_given (table_of t Lcp) given word))
after-capped t Ip given word k is =
    each (λ p. IsCappedAt (cap_of k.lcp) (auto_at (after t Ip given word k) p))
    (is Lcp) (keeps-cap (table_of t Ip) given word (cap_of k.lcp) k.ip (is Ip)) (is Ipv6) (is Osi) (is Mpls) (is Bacp)
after-capped t Ipv6 given word k is =
    each (λ p. IsCappedAt (cap_of k.lcp) (auto_at (after t Ipv6 given word k) p))
    (is Lcp) (is Ip) (keeps-cap (table_of t Ipv6) given word (cap_of k.lcp) k.ipv6 (is Ipv6)) (is Osi) (is Mpls) (is Bacp)
after-capped t Osi given word k is =
    each (λ p. IsCappedAt (cap_of k.lcp) (auto_at (after t Osi given word k) p))
    (is Lcp) (is Ip) (is Ipv6) (keeps-cap (table_of t Osi) given word (cap_of k.lcp) k.osi (is Osi)) (is Mpls) (is Bacp)
after-capped t Mpls given word k is =
    each (λ p. IsCappedAt (cap_of k.lcp) (auto_at (after t Mpls given word k) p))
    (is Lcp) (is Ip) (is Ipv6) (is Osi) (keeps-cap (table_of t Mpls) given word (cap_of k.lcp) k.mpls (is Mpls)) (is Bacp)
after-capped t Bacp given word k is =
    each (λ p. IsCappedAt (cap_of k.lcp) (auto_at (after t Bacp given word k) p))
    (is Lcp) (is Ip) (is Ipv6) (is Osi) (is Mpls) (keeps-cap (table_of t Bacp) given word (cap_of k.lcp) k.bacp (is Bacp))

rejecting-capped : (k : Automata) (id : ℕ) → IsCapped k → IsCapped (record k { reject_id = id })
unfolding IsCapped
rejecting-capped k id is =
    each (λ p. IsCappedAt (cap_of k.lcp) (auto_at (record k { reject_id = id }) p)) (is Lcp) (is Ip) (is Ipv6) (is Osi) (is Mpls) (is Bacp)

-- ---- what is done on a link

does-capped : (t : LinkTables) (q : Proto) (given : Given) (word : ℕ) (did : Did) → IsCapped did.automata → IsCapped (does t q given word did).automata
unfolding does
does-capped t q given word did is = after-capped t q given word did.automata is

each-capped : (t : LinkTables) (ps : List Proto) (event : AutoEvent) (word : ℕ) (did : Did) → IsCapped did.automata → IsCapped (each_does t ps event word did).automata
unfolding each_does
each-capped t [] event word did is = is
each-capped t (p ∷ ps) event word did is = each-capped t ps event word (does t p (Event event) word did) (does-capped t p (Event event) word did is)

there-capped : (t : LinkTables) (o : Option Proto) (word : ℕ) (did : Did) → IsCapped did.automata → IsCapped (does_rejected t o word did).automata
there-capped t (Some q) word did is = does-capped t q (Event RejectedBadly) word did is
there-capped t None word did is = does-capped t Lcp (Event RejectedWell) word did is

rejected-capped : (t : LinkTables) (o : Option ℕ) (word : ℕ) (did : Did) → IsCapped did.automata → IsCapped (rejected_if t o word did).automata
unfolding rejected_if
rejected-capped t None word did is = is
rejected-capped t (Some number) word did is = there-capped t (there did.automata (proto_of number)) word did is

takes-capped : (t : LinkTables) (q : Proto) (octets : List ℕ) (word : ℕ) (did : Did) → IsCapped did.automata → IsCapped (takes t q octets word did).automata
unfolding takes
takes-capped t q octets word did is =
    rejected-capped t (rejected_in (told_by t q (Octets octets) word did.automata)) word (does t q (Octets octets) word did) (does-capped t q (Octets octets) word did is)

other-capped : (number : ℕ) (info : List ℕ) (did : Did) (b : Bool) → IsCapped did.automata → IsCapped (if b then and_tells did (Payload number info) else rejects number info did).automata
unfolding rejects
other-capped number info did true is = is
other-capped number info did false is = rejecting-capped did.automata ((did.automata.reject_id + 1) % 256) is

for-capped : (t : LinkTables) (o : Option Proto) (number : ℕ) (info : List ℕ) (word : ℕ) (did : Did) → IsCapped did.automata → IsCapped (hears_as t o number info word did).automata
unfolding hears_other
for-capped t (Some q) number info word did is = takes-capped t q info word did is
for-capped t None number info word did is = other-capped number info did (is_payload t did.automata number) is

if-capped : (t : LinkTables) (o : Option Proto) (number : ℕ) (info : List ℕ) (word : ℕ) (did : Did) (b : Bool) → IsCapped did.automata →
    IsCapped (if b then hears_as t o number info word did else did).automata
if-capped t o number info word did true is = for-capped t o number info word did is
if-capped t o number info word did false is = is

read-capped : (t : LinkTables) (o : Option Read) (word : ℕ) (did : Did) → IsCapped did.automata → IsCapped (hears_read t o word did).automata
unfolding hears
read-capped t None word did is = is
read-capped t (Some read) word did is =
    if-capped t (there did.automata (proto_of read.protocol)) read.protocol read.info word did ((read.protocol == proto_number Lcp) || is_opened did.automata.lcp.state) is

link-capped : (what : Happening) (k : Link) (word : ℕ) → IsCapped k.automata → IsCapped (link_does what k word).link.automata
unfolding fed_with
link-capped LineUp k word is = does-capped k.tables Lcp (Event Up) word (begins k.automata) is
link-capped LineDown k word is = does-capped k.tables Lcp (Event Down) word (begins k.automata) is
link-capped (Opens q) k word is = does-capped k.tables q (Event AdminOpen) word (begins k.automata) is
link-capped (Closes q) k word is = does-capped k.tables q (Event AdminClose) word (begins k.automata) is
link-capped (TimesOut q) k word is = does-capped k.tables q (Event Timeout) word (begins k.automata) is
link-capped (Takes octets) k word is = read-capped k.tables (feed_step (read_by k.automata.lcp k.deframer) octets).left.frame word (begins k.automata) is

-- ---- all links

abbrev AllCapped : List Link → Type 0
AllCapped links = (i : ℕ) (k : Link) → slice_get links i ≡ Some k → IsCapped k.automata

either-capped : (links : List Link) (i : ℕ) (k j : Link) → AllCapped links → IsCapped k.automata → (k ≡ j) ⊎ (slice_get links i ≡ Some j) → IsCapped j.automata
either-capped links i k j all is (inl same) = subst (λ (k : Link). IsCapped k.automata) same is
either-capped links i k j all is (inr there) = all i j there

with-capped : (links : List Link) (l : ℕ) (k : Link) → AllCapped links → IsCapped k.automata → AllCapped (with_link l k links)
with-capped links l k all is i j at = either-capped links i k j all is (with-either links l i k j at)

caps-kept : (l word : ℕ) → IsKept l word (λ e. Unit {0}) (λ r. Unit {0}) (λ done. AllCapped done.links)
caps-kept l word = record {
  pushed = λ done octets is all. all;
  handed = λ done number octets all. all;
  hung = λ done all. all;
  moved = λ done b all. all;
  ran = λ done r k is at all.
      with-capped done.links r.link (link_with k (run_did k r.on r.bacp word)) all (each-capped k.tables (group r.bacp) (run_by r.on) word (begins k.automata) (all (r.link - 1) k at));
  came = λ key b. all-any (λ r. Unit {0}) (λ r. tt) (comes l key b).runs;
  went = λ b. all-any (λ r. Unit {0}) (λ r. tt) (goes l b).runs;
}

capped-by : (what : Happening) (l word : ℕ) (st : Trunk) (o : Option Link) → slice_get st.links (l - 1) ≡ o → AllCapped st.links → AllCapped (stepped_by what l st word o).trunk.links
capped-by what l word st None at all = all
capped-by what l word st (Some k) at all =
    let fed = link_does what k word in
    works-kept l word (λ e. Unit {0}) (λ r. Unit {0}) (λ done. AllCapped done.links) (caps-kept l word)
    fed.out (record { links = with_link l fed.link st.links; bundles = st.bundles; out = [] }) (all-any (λ e. Unit {0}) (λ e. tt) fed.out)
    (with-capped st.links l fed.link all (link-capped what k word (all (l - 1) k at)))

pub kept-caps : (what : Happening) (l word : ℕ) (st : Trunk) → AreCapped st → AreCapped (on_link what l st word).trunk
unfolding AreCapped
kept-caps what l word st all = capped-by what l word st (slice_get st.links (l - 1)) refl all

-- ---- as a trunk begins

begun-cap : {T : Type 0} (table : T → Table) (o : Option T) → IsCappedAt MOST_CAP (begun_if table o)
begun-cap table None = tt
begun-cap table (Some t) = refl

begun-capped : (t : LinkTables) → IsCapped (link_begun t).automata
unfolding IsCapped
begun-capped t =
    each (λ p. IsCappedAt MOST_CAP (auto_at (link_begun t).automata p))
    refl (begun-cap ip_table t.ip) (begun-cap ipv6_table t.ipv6) (begun-cap osi_table t.osi) (begun-cap mpls_table t.mpls) (begun-cap bacp_table t.bacp)

opens-capped : (ps : List Proto) (k : Link) → IsCapped k.automata → IsCapped (opens_all ps k).automata
unfolding opens_all
opens-capped [] k is = is
opens-capped (p ∷ ps) k is = opens-capped ps _ (does-capped k.tables p (Event AdminOpen) 0 (begins k.automata) is)

ready-capped : (t : LinkTables) → IsCapped (link_ready t).automata
ready-capped t = opens-capped (nets ++ Bacp ∷ []) (link_begun t) (begun-capped t)

ready-at : (links : List Link) (i : ℕ) (k : Link) → AllByRecursion IsReady links → slice_get links i ≡ Some k → IsReady k
ready-at [] i k all is = absurd (cc)
ready-at (x ∷ xs) zero k all is = let same : x ≡ k = cc in subst IsReady same all.0
ready-at (x ∷ xs) (suc i) k all is = ready-at xs i k all.1 is

pub begun-caps : (st : Trunk) → IsBegun st → AreCapped st
unfolding AreCapped
begun-caps st begun i k is =
    let ready = ready-at st.links i k begun.ready is in
    subst (λ (k : Link). IsCapped k.automata) (sym ready) (ready-capped k.tables)
