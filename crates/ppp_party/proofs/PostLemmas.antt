-- Frames that go out on a link, as each protocol sees them.
use Rattle.std.proofs.Common.{◌≡◌, ℕ, zero, suc, ◌+◌, Bool, true, false, if◌then◌else◌, List, [], ◌∷◌, ◌++◌, length, take, drop, refl, sym, ap, ◌∙◌, append-nil, take-append-drop, arith}
use Rattle.std.specs.Prelude.{Option, Some, None, ◌==◌, option_map, slice_get}
use Rattle.std.proofs.lemmas.Bool.Decides.{nat_tests}
use Rattle.std.proofs.lemmas.Grind.{flat_map-append}
use Rattle.ppp_packet.specs.Proto.{proto_number, proto_of}
use Rattle.ppp_packet.specs.declared.proto.Proto.{Proto}
use Rattle.ppp_packet.specs.declared.proto.Proto.TheVariants.{Lcp, Ip, Ipv6, Osi, Mpls, Bacp}
use Rattle.ppp_auto.specs.Packet.{Packet, packet_of}
use Rattle.ppp_duet.specs.Duet as duet
use Rattle.ppp_duet.specs.Duet.{End, Event, Marked, Setup, at_first, run, without}
use Rattle.ppp_frame.specs.Header.{Read}
use Rattle.ppp_trunk.specs.Orders.{is_same, packet_if, packets_of, read_in}
use Rattle.ppp_trunk.specs.StationOut.{Entry, Push, Got, Hang, Dial, Asked}
use Rattle.ppp_trunk.proofs.OrdersLemmas.{same-proto}
use Rattle.ppp_party.specs.Events.{Leads}
use Rattle.ppp_party.specs.Frame.{Carried, Frame, carried, carried_as, carried_by, mark_by, marked_for, marked_frames, noted_by, noted_frames, noted_if, only, packet_for, packets_for, seen}
use Rattle.ppp_party.specs.Ledger.{Ledger, Ledgers, ledger_at, noted_all, stamp, stamped}
use Rattle.ppp_party.specs.Party.{each_noted, each_queued, pushes_on, queued, room}
use Rattle.ppp_party.proofs.LedgerLemmas.{read_all, read_one}
use Rattle.ppp_party.proofs.OrderLemmas.{noted_all-append, read_all-append, stamped-append}

-- ---- what a frame carries

number-none : (n : ℕ) (p : Proto) → proto_of n ≡ None → (n == proto_number p) ≡ false
number-none n Lcp e = grind (arith, nat_tests)
number-none n Ip e = grind (arith, nat_tests)
number-none n Ipv6 e = grind (arith, nat_tests)
number-none n Osi e = grind (arith, nat_tests)
number-none n Mpls e = grind (arith, nat_tests)
number-none n Bacp e = grind (arith, nat_tests)

pub number-some : (n : ℕ) (q : Proto) → proto_of n ≡ Some q → n ≡ proto_number q
number-some n q e = grind (arith, nat_tests)

pub of-info : (p q : Proto) (o : Option Packet) (b : Bool) → is_same p q ≡ b →
    packet_for p (option_map (λ packet. record { proto = q; packet = packet }) o) ≡ (if b then read_one o else [])
of-info p q None true e = refl
of-info p q None false e = refl
of-info p q (Some packet) true e = rw e refl
of-info p q (Some packet) false e = rw e refl

if-read : (b : Bool) (info : List ℕ) → (if b then read_one (packet_of info) else []) ≡ read_all (if b then info ∷ [] else [])
if-read true info = sym (append-nil (read_one (packet_of info)))
if-read false info = refl

of-number : (p : Proto) (n : ℕ) (info : List ℕ) (o : Option Proto) → proto_of n ≡ o → packet_for p (carried_as o info) ≡ read_all (if n == proto_number p then info ∷ [] else [])
of-number p n info None e = rw (number-none n p e) refl
of-number p n info (Some q) e =
    of-info p q (packet_of info) (is_same p q) refl
    ∙ if-read (is_same p q) info
    ∙ ap (λ n. read_all (if n == proto_number p then info ∷ [] else [])) (sym (number-some n q e))

of-read : (p : Proto) (o : Option Read) → packet_for p (carried_by o) ≡ read_all (packet_if p o)
of-read p None = refl
of-read p (Some read) = of-number p read.protocol read.info (proto_of read.protocol) refl

pub carried-packets : (p : Proto) (octets : List ℕ) → packet_for p (carried octets) ≡ read_all (packet_if p (read_in octets))
unfolding carried
carried-packets p octets = of-read p (read_in octets)

one-push : (p : Proto) (octets : List ℕ) (frames packets : List (List ℕ)) (b : Bool) → packets_for p frames ≡ read_all packets →
    packets_for p ((if b then octets ∷ [] else []) ++ frames) ≡ read_all ((if b then packet_if p (read_in octets) else []) ++ packets)
one-push p octets frames packets true more = (λ i. carried-packets p octets i ++ more i) ∙ sym (read_all-append (packet_if p (read_in octets)) packets)
one-push p octets frames packets false more = more

-- the packets in the frames that go out on a link
pub pushes-packets : (p : Proto) (m : ℕ) (es : List Entry) → packets_for p (pushes_on m es) ≡ read_all (packets_of p m es)
pushes-packets p m [] = refl
pushes-packets p m (Push l octets ∷ es) = one-push p octets (pushes_on m es) (packets_of p m es) (l == m) (pushes-packets p m es)
pushes-packets p m (Got class protocol octets ∷ es) = pushes-packets p m es
pushes-packets p m (Hang l ∷ es) = pushes-packets p m es
pushes-packets p m (Dial l ∷ es) = pushes-packets p m es
pushes-packets p m (Asked answer ∷ es) = pushes-packets p m es

-- ---- what is noted and marked

noted-one : (gs : Ledgers) (p : Proto) (c : Option Carried) → ledger_at (noted_by gs c) p ≡ noted_if (ledger_at gs p) (packet_for p c)
noted-one gs Lcp c = refl
noted-one gs Ip c = refl
noted-one gs Ipv6 c = refl
noted-one gs Osi c = refl
noted-one gs Mpls c = refl
noted-one gs Bacp c = refl

-- a frame carries one packet at most
noted-few : (g : Ledger) (p : Proto) (c : Option Carried) → noted_if g (packet_for p c) ≡ noted_all g (packet_for p c)
noted-few g p None = refl
noted-few g p (Some c) = one (is_same p c.proto)
  where
    one : (b : Bool) → noted_if g (if b then c.packet ∷ [] else []) ≡ noted_all g (if b then c.packet ∷ [] else [])
    one true = refl
    one false = refl

pub noted-frames : (gs : Ledgers) (p : Proto) (frames : List (List ℕ)) → ledger_at (noted_frames gs frames) p ≡ noted_all (ledger_at gs p) (packets_for p frames)
noted-frames gs p [] = refl
noted-frames gs p (octets ∷ more) =
    noted-frames (noted_by gs (carried octets)) p more
    ∙ ap (λ g. noted_all g (packets_for p more)) (noted-one gs p (carried octets) ∙ noted-few (ledger_at gs p) p (carried octets))
    ∙ sym (noted_all-append (ledger_at gs p) (packet_for p (carried octets)) (packets_for p more))

marked-one : (gs : Ledgers) (p : Proto) (mark : ℕ) (c : Option Carried) → marked_for (mark_by gs mark c) (packet_for p c) ≡ stamped (ledger_at gs p) mark (packet_for p c)
marked-one gs p mark None = refl
marked-one gs p mark (Some c) = one (is_same p c.proto) refl
  where
    one : (b : Bool) → is_same p c.proto ≡ b → marked_for (mark_by gs mark (Some c)) (if b then c.packet ∷ [] else []) ≡ stamped (ledger_at gs p) mark (if b then c.packet ∷ [] else [])
    one true e = ap (λ q. stamp (ledger_at gs q) mark c.packet ∷ []) (sym (same-proto p c.proto e))
    one false e = refl

pub marked-frames : (gs : Ledgers) (p : Proto) (mark : ℕ) (frames : List (List ℕ)) → only p (marked_frames gs mark frames) ≡ stamped (ledger_at gs p) mark (packets_for p frames)
marked-frames gs p mark [] = refl
marked-frames gs p mark (octets ∷ more) =
    let c = carried octets in
    (λ i. marked-one gs p mark c i ++ marked-frames (noted_by gs c) p mark more i)
    ∙ ap (λ g. stamped (ledger_at gs p) mark (packet_for p c) ++ stamped g mark (packets_for p more)) (noted-one gs p c ∙ noted-few (ledger_at gs p) p c)
    ∙ sym (stamped-append (ledger_at gs p) mark (packet_for p c) (packets_for p more))

-- ---- a full queue

lost : ℕ → List Event
lost place = record { side = duet.B; what = duet.Loses place; word = 0 } ∷ []

without-next : {X : Type 0} (front : List X) (x : X) (back : List X) → without (suc (length front)) (front ++ x ∷ back) ≡ front ++ back
without-next [] x back = refl
without-next (y ∷ front) x back = ap (λ xs. y ∷ xs) (without-next front x back)

-- what stands behind some is lost, one after the other
tail-lost : (sa sb : Setup) (a b : End) (to_a front back : List Marked) → Leads sa sb (record { a = a; b = b; to_a = to_a; to_b = front ++ back }) (record { a = a; b = b; to_a = to_a; to_b = front })
unfolding at_first
tail-lost sa sb a b to_a front [] = record { events = []; none = tt; leads = ap (λ ms. record { a = a; b = b; to_a = to_a; to_b = ms }) (append-nil front) }
tail-lost sa sb a b to_a front (m ∷ back) =
    let more = tail-lost sa sb a b to_a front back in
    record {
      events = record { side = duet.B; what = duet.Loses (suc (length front)); word = 0 } ∷ more.events;
      none = (tt, more.none);
      leads = ap (λ ms. run sa sb more.events (record { a = a; b = b; to_a = to_a; to_b = ms })) (without-next front m back) ∙ more.leads;
    }

only-append : (p : Proto) (xs ys : List Frame) → only p (xs ++ ys) ≡ only p xs ++ only p ys
only-append p xs ys = flat_map-append (seen p) xs ys

pub queued-leads : (sa sb : Setup) (a b : End) (to_a : List Marked) (p : Proto) (queue sent : List Frame) →
    Leads sa sb (record { a = a; b = b; to_a = to_a; to_b = only p queue ++ only p sent }) (record { a = a; b = b; to_a = to_a; to_b = only p (queued queue sent) })
queued-leads sa sb a b to_a p queue sent =
    let all = queue ++ sent in
    let parts : only p queue ++ only p sent ≡ only p (take room all) ++ only p (drop room all) =
    sym (only-append p queue sent) ∙ ap (only p) (sym (take-append-drop room all)) ∙ only-append p (take room all) (drop room all) in
    let losses = tail-lost sa sb a b to_a (only p (take room all)) (only p (drop room all)) in
    record { events = losses.events; none = losses.none; leads = ap (λ ms. run sa sb losses.events (record { a = a; b = b; to_a = to_a; to_b = ms })) parts ∙ losses.leads }

nil-front : {X : Type 0} (xs ys : List X) → xs ++ ys ≡ [] → xs ≡ []
nil-front [] ys e = refl
nil-front (x ∷ xs) ys e = absurd (cc)

pub none-only : (p : Proto) (queue : List Frame) (n : ℕ) → only p queue ≡ [] → only p (take n queue) ≡ []
none-only p queue n none =
    nil-front (only p (take n queue)) (only p (drop n queue)) (sym (only-append p (take n queue) (drop n queue)) ∙ ap (only p) (take-append-drop n queue) ∙ none)

-- ---- link by link

pub noted-at : (m : ℕ) (es : List Entry) (gs : List Ledgers) (i : ℕ) → slice_get (each_noted m es gs) i ≡ option_map (λ g. noted_frames g (pushes_on (m + i) es)) (slice_get gs i)
noted-at m es [] zero = refl
noted-at m es [] (suc i) = refl
noted-at m es (g ∷ gs) zero = ap (λ n. Some (noted_frames g (pushes_on n es))) (omega arith)
noted-at m es (g ∷ gs) (suc i) = noted-at (m + 1) es gs i ∙ ap (λ n. option_map (λ g. noted_frames g (pushes_on n es)) (slice_get gs i)) (omega arith)

pub queued-at : (m mark : ℕ) (es : List Entry) (gs : List Ledgers) (queues : List (List Frame)) (i : ℕ) (g : Ledgers) (queue : List Frame) →
    slice_get gs i ≡ Some g → slice_get queues i ≡ Some queue → slice_get (each_queued m mark es gs queues) i ≡ Some (queued queue (marked_frames g mark (pushes_on (m + i) es)))
queued-at m mark es [] queues i g queue there waits = absurd (cc)
queued-at m mark es (x ∷ gs) [] i g queue there waits = absurd (cc)
queued-at m mark es (x ∷ gs) (y ∷ queues) zero g queue there waits =
    let same : x ≡ g = cc in let one : y ≡ queue = cc in
    let at : m ≡ m + 0 = omega arith in
    (λ i. Some (queued (one i) (marked_frames (same i) mark (pushes_on (at i) es))))
queued-at m mark es (x ∷ gs) (y ∷ queues) (suc i) g queue there waits =
    queued-at (m + 1) mark es gs queues i g queue there waits ∙ ap (λ n. Some (queued queue (marked_frames g mark (pushes_on n es)))) (omega arith)
