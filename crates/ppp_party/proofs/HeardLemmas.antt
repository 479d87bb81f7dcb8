-- What is heard of a frame can be told from what the link lends of it.
use Rattle.std.proofs.Common.{◌≡◌, ◌-◌, ℕ, Bool, true, false, if◌then◌else◌, List, [], ◌∷◌, ◌++◌, length, refl, sym, ap, subst, ◌∙◌}
use Rattle.std.specs.Prelude.{◌==◌, ◌||◌, Option, Some, None, option_map, is_some, slice_get}
use Rattle.ppp_auto.specs.Auto.{Auto, is_opened}
use Rattle.ppp_auto.specs.Packet.{Packet, packet_of}
use Rattle.ppp_frame.specs.Deframer.{DeframerState, feed_step}
use Rattle.ppp_frame.specs.Header.{Read}
use Rattle.ppp_link.specs.Automata.{Automata, auto_at}
use Rattle.ppp_link.specs.Link.{Link, read_by}
use Rattle.ppp_link.specs.LinkTables.{LinkTables}
use Rattle.ppp_link.specs.Steps.{Event, Packet as GivenPacket, after, is_payload, rejected_in, there, told_by}
use Rattle.ppp_packet.specs.Proto.{proto_number, proto_of}
use Rattle.ppp_packet.specs.declared.proto.Proto.{Proto}
use Rattle.ppp_packet.specs.declared.proto.Proto.TheVariants.{Lcp, Ip, Ipv6, Osi, Mpls, Bacp}
use Rattle.ppp_auto.specs.declared.auto_event.AutoEvent.{AutoEvent}
use Rattle.ppp_auto.specs.declared.auto_event.AutoEvent.TheVariants.{RejectedWell, RejectedBadly}
use Rattle.ppp_trunk.specs.Orders.{Order, Commands, caps_after, is_same, of_frame, of_frame_for, of_given, of_other, of_packet, of_read, of_rejected, of_rejected_there, rejects_as}
use Rattle.ppp_trunk.specs.Trunk.{IsOfLink}
use Rattle.ppp_trunk.specs.StationOut.{AreShort, Out}
use Rattle.ppp_station.specs.Station.{IsStation, Station, hears}
use Rattle.ppp_station.proofs.KeptLemmas.{moved-octets}
use Rattle.ppp_trunk.proofs.OrdersLemmas.{same-proto}
use Rattle.ppp_party.specs.Frame.{Carried, Frame, carried_as, carried_by}
use Rattle.ppp_party.specs.Heard.{heard_in, hears as hears-noted, is_let_in, ledgers_with, state_at, states_of}
use Rattle.ppp_party.specs.Ledger.{Ledger, Ledgers, heard, ledger_at, ledgers_by}
use Rattle.ppp_party.specs.Party.{heard_by, heard_on, heard_packet}
use Rattle.ppp_party.specs.declared.states.States.{States}
use Rattle.ppp_party.proofs.PostLemmas.{number-some}
use Rattle.ppp_party.proofs.CameLemmas.{step-lends}
use Rattle.ppp_party.proofs.SendLemmas.{of-ledgers}

-- ---- orders that bring nothing

caps-none : (g : Ledger) (a : Option Auto) (mark : ℕ) (q : Proto) (k : Automata) → heard_by g a mark (caps_after q k) ≡ g
caps-none g a mark Lcp k = refl
caps-none g a mark Ip k = refl
caps-none g a mark Ipv6 k = refl
caps-none g a mark Osi k = refl
caps-none g a mark Mpls k = refl
caps-none g a mark Bacp k = refl

event-none : (g : Ledger) (a : Option Auto) (mark : ℕ) (p q : Proto) (t : LinkTables) (word : ℕ) (event : AutoEvent) (k : Automata) → heard_by g a mark (of_given p t word q (Event event) k) ≡ g
event-none g a mark p q t word event k = by (is_same p q)
  where
    by : (b : Bool) → heard_by g a mark ((if b then Commands event ∷ [] else []) ++ caps_after q (after t q (Event event) word k)) ≡ g
    by true = refl
    by false = caps-none g a mark q (after t q (Event event) word k)

there-none : (g : Ledger) (a : Option Auto) (mark : ℕ) (p : Proto) (t : LinkTables) (word : ℕ) (o : Option Proto) (k : Automata) → heard_by g a mark (of_rejected_there p t word o k) ≡ g
there-none g a mark p t word (Some q) k = event-none g a mark p q t word RejectedBadly k
there-none g a mark p t word None k = event-none g a mark p Lcp t word RejectedWell k

rejected-none : (g : Ledger) (a : Option Auto) (mark : ℕ) (p : Proto) (t : LinkTables) (word : ℕ) (o : Option ℕ) (k : Automata) → heard_by g a mark (of_rejected p t word o k) ≡ g
rejected-none g a mark p t word None k = refl
rejected-none g a mark p t word (Some number) k = there-none g a mark p t word (there k (proto_of number)) k

behind-none : (g : Ledger) (a : Option Auto) (mark : ℕ) (q : Proto) (k : Automata) (more : List Order) → heard_by g a mark more ≡ g → heard_by g a mark (caps_after q k ++ more) ≡ g
behind-none g a mark Lcp k more none = refl
behind-none g a mark Ip k more none = none
behind-none g a mark Ipv6 k more none = none
behind-none g a mark Osi k more none = none
behind-none g a mark Mpls k more none = none
behind-none g a mark Bacp k more none = none

rejects-none : (g : Ledger) (a : Option Auto) (mark : ℕ) (p : Proto) (number : ℕ) (info : List ℕ) (k : Automata) → heard_by g a mark (rejects_as p number info k) ≡ g
rejects-none g a mark Lcp number info k = refl
rejects-none g a mark Ip number info k = refl
rejects-none g a mark Ipv6 number info k = refl
rejects-none g a mark Osi number info k = refl
rejects-none g a mark Mpls number info k = refl
rejects-none g a mark Bacp number info k = refl

other-none : (g : Ledger) (a : Option Auto) (mark : ℕ) (p : Proto) (t : LinkTables) (word number : ℕ) (info : List ℕ) (k : Automata) → heard_by g a mark (of_other p t word number info k) ≡ g
other-none g a mark p t word number info k = by (is_payload t k number)
  where
    by : (b : Bool) → heard_by g a mark (if b then [] else rejects_as p number info k) ≡ g
    by true = refl
    by false = rejects-none g a mark p number info k

-- ---- a packet that comes for an automaton

-- what the ledger of a protocol hears, by whether the packet is of that
packet-heard : (gs : Ledgers) (a : Auto) (mark : ℕ) (p q : Proto) (t : LinkTables) (word : ℕ) (info : List ℕ) (k : Automata) (b : Bool) → is_same p q ≡ b → auto_at k q ≡ Some a →
    heard_by (ledger_at gs p) (auto_at k p) mark (of_packet p t word q info k)
    ≡ (if b then heard_packet (ledger_at gs q) (Some a) mark (packet_of info) else ledger_at gs p)
packet-heard gs a mark p q t word info k true same is =
    let one : p ≡ q = same-proto p q same in
    rw same (λ i. heard_packet (ledger_at gs (one i)) ((ap (auto_at k) one ∙ is) i) mark (packet_of info))
packet-heard gs a mark p q t word info k false other is =
    let o = rejected_in (told_by t q (GivenPacket info) word k) in
    rw other (behind-none (ledger_at gs p) (auto_at k p) mark q (after t q (GivenPacket info) word k) _ (rejected-none (ledger_at gs p) (auto_at k p) mark p t word o (after t q (GivenPacket info) word k)))

-- ---- a frame that a link lends

state-is : (k : Automata) (q : Proto) → state_at (states_of k) q ≡ option_map (λ a. a.state) (auto_at k q)
state-is k Lcp = refl
state-is k Ip = refl
state-is k Ipv6 = refl
state-is k Osi = refl
state-is k Mpls = refl
state-is k Bacp = refl

-- what the ledgers hear, by whether the frame is let in, the automaton and the packet
abbrev hears-as : Ledgers → ℕ → Proto → Bool → Option Auto → Option Packet → Ledgers
hears-as gs mark q b a None = gs
hears-as gs mark q b a (Some packet) = if b then ledgers_with gs q (heard_in (ledger_at gs q) (option_map (λ a. a.state) a) mark packet) else gs

hears-is : (gs : Ledgers) (mark : ℕ) (q : Proto) (k : Automata) (o : Option Packet) →
    hears-noted gs (states_of k) mark (option_map (λ packet. record { proto = q; packet = packet }) o) ≡ hears-as gs mark q (is_let_in (states_of k) q) (auto_at k q) o
hears-is gs mark q k None = refl
hears-is gs mark q k (Some packet) = (λ i. if is_let_in (states_of k) q then ledgers_with gs q (heard_in (ledger_at gs q) (state-is k q i) mark packet) else gs)

-- one ledger among all
with-at : (gs : Ledgers) (p q : Proto) (g : Ledger) → ledger_at (ledgers_with gs q g) p ≡ (if is_same p q then g else ledger_at gs p)
with-at gs p q g = of-ledgers (λ p. if is_same p q then g else ledger_at gs p) p

stays : (gs : Ledgers) (p q : Proto) (b : Bool) → is_same p q ≡ b → (if b then ledger_at gs q else ledger_at gs p) ≡ ledger_at gs p
stays gs p q true same = ap (ledger_at gs) (sym (same-proto p q same))
stays gs p q false other = refl

as-heard : (gs : Ledgers) (mark : ℕ) (p q : Proto) (t : LinkTables) (word number : ℕ) (info : List ℕ) (k : Automata) (b : Bool) (a : Option Auto) (o : Option Packet) → auto_at k q ≡ a → packet_of info ≡ o →
    heard_by (ledger_at gs p) (auto_at k p) mark (if b then of_frame_for p t word (if is_some a then Some q else None) number info k else []) ≡ ledger_at (hears-as gs mark q b a o) p
as-heard gs mark p q t word number info k false a None is reads = refl
as-heard gs mark p q t word number info k false a (Some packet) is reads = refl
as-heard gs mark p q t word number info k true None None is reads = other-none (ledger_at gs p) (auto_at k p) mark p t word number info k
as-heard gs mark p q t word number info k true None (Some packet) is reads =
    other-none (ledger_at gs p) (auto_at k p) mark p t word number info k
    ∙ sym (with-at gs p q (ledger_at gs q) ∙ stays gs p q (is_same p q) refl)
as-heard gs mark p q t word number info k true (Some a) None is reads =
    packet-heard gs a mark p q t word info k (is_same p q) refl is
    ∙ ap (λ o. if is_same p q then heard_packet (ledger_at gs q) (Some a) mark o else ledger_at gs p) reads
    ∙ stays gs p q (is_same p q) refl
as-heard gs mark p q t word number info k true (Some a) (Some packet) is reads =
    packet-heard gs a mark p q t word info k (is_same p q) refl is
    ∙ ap (λ o. if is_same p q then heard_packet (ledger_at gs q) (Some a) mark o else ledger_at gs p) reads
    ∙ sym (with-at gs p q (heard (ledger_at gs q) a.state mark packet))

number-heard : (gs : Ledgers) (mark : ℕ) (p : Proto) (t : LinkTables) (word number : ℕ) (info : List ℕ) (k : Automata) (o : Option Proto) → proto_of number ≡ o →
    heard_by (ledger_at gs p) (auto_at k p) mark (of_frame p t word number info k) ≡ ledger_at (hears-noted gs (states_of k) mark (carried_as o info)) p
number-heard gs mark p t word number info k None is = by ((number == proto_number Lcp) || is_opened k.lcp.state)
  where
    by : (b : Bool) → heard_by (ledger_at gs p) (auto_at k p) mark (if b then of_frame_for p t word (there k (proto_of number)) number info k else []) ≡ ledger_at gs p
    by true = rw is (other-none (ledger_at gs p) (auto_at k p) mark p t word number info k)
    by false = refl
number-heard gs mark p t word number info k (Some q) is =
    let at = number-some number q is in
    (λ i. heard_by (ledger_at gs p) (auto_at k p) mark (if (at i == proto_number Lcp) || is_opened k.lcp.state then of_frame_for p t word (there k (is i)) number info k else []))
    ∙ as-heard gs mark p q t word number info k (is_let_in (states_of k) q) (auto_at k q) (packet_of info) refl refl
    ∙ ap (λ gs. ledger_at gs p) (sym (hears-is gs mark q k (packet_of info)))

read-heard : (gs : Ledgers) (mark : ℕ) (p : Proto) (t : LinkTables) (word : ℕ) (k : Automata) (o : Option Read) →
    heard_by (ledger_at gs p) (auto_at k p) mark (of_read p t word o k) ≡ ledger_at (hears-noted gs (states_of k) mark (carried_by o)) p
read-heard gs mark p t word k None = refl
read-heard gs mark p t word k (Some read) = number-heard gs mark p t word read.protocol read.info k (proto_of read.protocol) refl

pub heard-lent : (k : Link) (f : Frame) (word : ℕ) (gs : Ledgers) →
    heard_on k f word gs ≡ hears-noted gs (states_of k.automata) f.mark (carried_by (feed_step (read_by k.automata.lcp k.deframer) f.octets).left.frame)
heard-lent k f word gs =
    let read = (feed_step (read_by k.automata.lcp k.deframer) f.octets).left.frame in
    (λ i. ledgers_by (λ p. read-heard gs f.mark p k.tables word k.automata read i))

-- ---- what a link lends after its trunk's step

same-link : (o : Option Link) (j k : Link) → o ≡ Some j → o ≡ Some k → j ≡ k
same-link o j k one other = let both : Some j ≡ Some k = sym one ∙ other in cc

-- what the code hears is what is heard of the frame
pub taken-heard : (k j after : Link) (f : Frame) (l word mark : ℕ) (st new : Station) (told : Out) (octets : List ℕ) (allowed : Bool) (lender : DeframerState) (lent : Option Carried) (states : States) (gs now : Ledgers) →
    IsStation st → IsOfLink (length st.trunk.links) l → slice_get st.trunk.links (l - 1) ≡ Some k → slice_get st.trunk.links (l - 1) ≡ Some j → octets ≡ f.octets →
    new ≡ (hears allowed l octets st word).station → told ≡ (hears allowed l octets st word).out → AreShort told.entries → slice_get new.trunk.links (l - 1) ≡ Some after →
    lender ≡ after.deframer → lent ≡ carried_by lender.frame → states ≡ states_of j.automata → mark ≡ f.mark → now ≡ hears-noted gs states mark lent → now ≡ heard_on k f word gs
taken-heard k j after f l word mark st new told octets allowed lender lent states gs now well of there here octets_are new_is told_is short at lender_is lent_is states_are mark_is now_is =
    let step = hears allowed l octets st word in
    let to = step-lends l word st k octets step of.0 there (moved-octets allowed l word octets st well of) (subst (λ (o : Out). AreShort o.entries) told_is short) in
    let same = same-link (slice_get st.trunk.links (l - 1)) j k here there in
    let own : slice_get new.trunk.links (l - 1) ≡ Some to.link = ap (λ (st : Station). slice_get st.trunk.links (l - 1)) new_is ∙ to.at in
    let done = same-link (slice_get new.trunk.links (l - 1)) after to.link at own in
    let lends : lender.frame ≡ (feed_step (read_by k.automata.lcp k.deframer) f.octets).left.frame =
    ap (λ (d : DeframerState). d.frame) (lender_is ∙ ap (λ (k : Link). k.deframer) done)
    ∙ to.reads
    ∙ ap (λ xs. (feed_step (read_by k.automata.lcp k.deframer) xs).left.frame) octets_are in
    now_is
    ∙ (λ i. hears-noted gs ((states_are ∙ ap (λ (k : Link). states_of k.automata) same) i) (mark_is i) ((lent_is ∙ ap carried_by lends) i))
    ∙ sym (heard-lent k f word gs)
