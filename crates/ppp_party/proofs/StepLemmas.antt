-- An event at an end is, for each protocol on each link, a list of the two ends' events.
use Rattle.std.proofs.Common.{◌≡◌, ◌≢◌, ℕ, zero, suc, ◌-◌, take, Bool, true, false, if◌then◌else◌, List, [], ◌∷◌, ◌++◌, refl, sym, ap, subst, ◌∙◌, append-nil, inl, inr}
use Rattle.std.specs.Prelude.{◌⊎◌, ◌==◌, ◌&&◌, ◌||◌, Option, Some, None}
use Rattle.std.specs.List.{AllByRecursion}
use Rattle.std.proofs.lemmas.Bool.{eq-eqb, ne_eqb}
use Rattle.ppp_auto.specs.Auto.{Auto, is_opened}
use Rattle.ppp_auto.specs.Automaton.{take_read}
use Rattle.ppp_auto.specs.Packet.{Packet, packet_of}
use Rattle.ppp_auto.specs.declared.auto_event.AutoEvent.{AutoEvent}
use Rattle.ppp_auto.specs.declared.auto_event.AutoEvent.TheVariants.{Up, Down, AdminOpen, AdminClose, Timeout, RejectedWell, RejectedBadly}
use Rattle.ppp_duet.specs.Duet as duet
use Rattle.ppp_duet.specs.Duet.{Duet, End, Event, Marked, Setup, at_first, run, without}
use Rattle.ppp_duet.proofs.NarrowRunLemmas.{run_append}
use Rattle.ppp_frame.specs.Deframer.{DeframerState, feed_step}
use Rattle.ppp_frame.specs.Frame.{enc}
use Rattle.ppp_frame.specs.Header.{Read, reads}
use Rattle.ppp_frame.specs.Standing.{fresh}
use Rattle.ppp_packet.specs.Proto.{proto_number, proto_of}
use Rattle.ppp_packet.specs.declared.proto.Proto.{Proto}
use Rattle.ppp_packet.specs.declared.proto.Proto.TheVariants.{Lcp, Ip, Ipv6, Osi, Mpls, Bacp}
use Rattle.ppp_packet.specs.Packet.{two_octets}
use Rattle.ppp_link.specs.Automata.{Automata, auto_at, cap_of, is_there}
use Rattle.ppp_link.specs.Link.{Link, read_by}
use Rattle.ppp_link.specs.LinkTables.{LinkTables, table_of}
use Rattle.ppp_link.specs.Steps.{Event as Commanded, Packet as Octets, after, is_payload, rejected_in, run_by, there, told_by}
use Rattle.ppp_trunk.specs.Control.{Run}
use Rattle.ppp_trunk.specs.Moves.{Moves, goes_with, of_own, of_run, of_runs, orders_at}
use Rattle.ppp_trunk.specs.Orders.{Obeyed, Order, Commands, SetsCap, Hears, RejectsProtocol, and_sends, auto_by, caps_after, is_same, obeyed, obeys_all, of_frame_for, of_given, of_link, of_packet, of_read, of_rejected, of_rejected_there, own_order, read_in, rejects_as, sent_by}
use Rattle.ppp_trunk.specs.StationOut.{Entry}
use Rattle.ppp_trunk.specs.Steps.{Happening, LineUp, LineDown, Opens, Closes, TimesOut, Takes}
use Rattle.ppp_trunk.proofs.OrdersLemmas.{same-proto}
use Rattle.ppp_party.specs.Events.{AreCaused, DeliversFirst, IsCaused, IsNoReboot, Leads, Makes}
use Rattle.ppp_party.specs.Frame.{Carried, Frame, carried, carried_as, carried_by, marked_for, marked_frames, noted_frames, only, packet_for, packets_for, seen}
use Rattle.ppp_party.specs.Ledger.{Ledger, Ledgers, IsLedgerOf, end_of, heard, ledger_at, noted_all, stamped}
use Rattle.ppp_party.specs.Party.{heard_by, heard_on, heard_packet, pushes_on, queued}
use Rattle.ppp_party.specs.Seat.{IsEnd, IsSpoken, IsNoFrame, IsSent, IsSettled, Seat, seat_duet, seat_heard, seat_loses, seat_posted, sender_number}
use Rattle.ppp_party.proofs.LedgerLemmas.{read_all, read_one}
use Rattle.ppp_party.proofs.OrderLemmas.{AllByRecursion-append, BringsNone, at_own, duet_with, frame-run, joined, orders-run}
use Rattle.ppp_party.proofs.PostLemmas.{marked-frames, noted-frames, number-some, of-info, pushes-packets, queued-leads}
use Rattle.ppp_party.proofs.ReadLemmas.{lent-as}
use Rattle.ppp_party.proofs.SenderLemmas.{sender-read}

-- ---- orders that bring no frame

abbrev pub None_in : List Order → Type 0
None_in os = AllByRecursion BringsNone os

pub none-append : (os more : List Order) → None_in os → None_in more → None_in (os ++ more)
none-append os more first rest = AllByRecursion-append BringsNone os more first rest

command-none : (b : Bool) (event : AutoEvent) → None_in (if b then Commands event ∷ [] else [])
command-none true event = (tt, tt)
command-none false event = tt

caps-none : (q : Proto) (k : Automata) → None_in (caps_after q k)
caps-none Lcp k = (tt, tt)
caps-none Ip k = tt
caps-none Ipv6 k = tt
caps-none Osi k = tt
caps-none Mpls k = tt
caps-none Bacp k = tt

given-none : (p : Proto) (t : LinkTables) (word : ℕ) (q : Proto) (event : AutoEvent) (k : Automata) → None_in (of_given p t word q (Commanded event) k)
given-none p t word q event k = none-append (own_order p q (Commanded event)) _ (command-none (is_same p q) event) (caps-none q _)

link-none : (p : Proto) (what : Happening) (k : Link) (word : ℕ) → IsNoFrame what → None_in (of_link p what k word)
link-none p LineUp k word quiet = given-none p k.tables word Lcp Up k.automata
link-none p LineDown k word quiet = given-none p k.tables word Lcp Down k.automata
link-none p (Opens q) k word quiet = given-none p k.tables word q AdminOpen k.automata
link-none p (Closes q) k word quiet = given-none p k.tables word q AdminClose k.automata
link-none p (TimesOut q) k word quiet = given-none p k.tables word q Timeout k.automata
link-none p (Takes octets) k word quiet = absurd quiet

-- those of protocols that go Up or Down
runs-none : (m : ℕ) (p : Proto) (rs : List Run) → None_in (of_runs m p rs)
runs-none m p [] = tt
runs-none m p (r ∷ rs) = none-append (of_run m p r) (of_runs m p rs) (command-none ((r.link == m) && goes_with p r.bacp) (run_by r.on)) (runs-none m p rs)

own-none : (p : Proto) (what : Happening) (k : Link) (word : ℕ) (b : Bool) → IsNoFrame what → None_in (if b then of_link p what k word else [])
own-none p what k word true quiet = link-none p what k word quiet
own-none p what k word false quiet = tt

pub quiet-none : (l m : ℕ) (p : Proto) (what : Happening) (rs : List Run) (k : Link) (word : ℕ) → IsNoFrame what → None_in (orders_at l m p what rs k word)
quiet-none l m p what rs k word quiet = none-append (of_own l m p what k word) (of_runs m p rs) (own-none p what k word (l == m) quiet) (runs-none m p rs)

-- the own step of a link is there alone
pub own-here : (l : ℕ) (p : Proto) (what : Happening) (k : Link) (word : ℕ) → of_own l l p what k word ≡ of_link p what k word
own-here l p what k word = ap (λ b. if b then of_link p what k word else []) (eq-eqb l l refl)

pub own-other : (l m : ℕ) (p : Proto) (what : Happening) (k : Link) (word : ℕ) → m ≢ l → of_own l m p what k word ≡ []
own-other l m p what k word other = ap (λ b. if b then of_link p what k word else []) (ne_eqb l m (λ same. other (sym same)))

pub other-none : (l m : ℕ) (p : Proto) (what : Happening) (rs : List Run) (k : Link) (word : ℕ) → m ≢ l → None_in (orders_at l m p what rs k word)
other-none l m p what rs k word other = subst (λ os. None_in (os ++ of_runs m p rs)) (sym (own-other l m p what k word other)) (runs-none m p rs)

-- ---- orders by a frame: at most the first brings it

rejected-there : (p : Proto) (t : LinkTables) (word : ℕ) (o : Option Proto) (k : Automata) → None_in (of_rejected_there p t word o k)
rejected-there p t word (Some q) k = given-none p t word q RejectedBadly k
rejected-there p t word None k = given-none p t word Lcp RejectedWell k

rejected-none : (p : Proto) (t : LinkTables) (word : ℕ) (o : Option ℕ) (k : Automata) → None_in (of_rejected p t word o k)
rejected-none p t word None k = tt
rejected-none p t word (Some number) k = rejected-there p t word (there k (proto_of number)) k

rejects-none : (p : Proto) (number : ℕ) (info : List ℕ) (k : Automata) → None_in (rejects_as p number info k)
rejects-none Lcp number info k = ((k.reject_id, two_octets number ++ take (cap_of k.lcp - 6) info, refl), tt)
rejects-none Ip number info k = tt
rejects-none Ipv6 number info k = tt
rejects-none Osi number info k = tt
rejects-none Mpls number info k = tt
rejects-none Bacp number info k = tt

payload-none : (p : Proto) (number : ℕ) (info : List ℕ) (k : Automata) (b : Bool) → None_in (if b then [] else rejects_as p number info k)
payload-none p number info k true = tt
payload-none p number info k false = rejects-none p number info k

-- the first order is to take what was read, which is of the protocol
record IsHeard (p : Proto) (read : Option Read) (os : List Order) : Type 0 where
  info : List ℕ
  rest : List Order
  is : os ≡ Hears info ∷ rest
  none : None_in rest
  of : read ≡ Some (reads (proto_number p) info)

there-some : (k : Automata) (o : Option Proto) (q : Proto) → there k o ≡ Some q → o ≡ Some q
there-some k None q e = absurd (cc)
there-some k (Some r) q e = one (is_there k r) e
  where
    one : (b : Bool) → (if b then Some r else None) ≡ Some q → Some r ≡ Some q
    one true e = e
    one false e = absurd (cc)

packet-orders : (p : Proto) (t : LinkTables) (word : ℕ) (q : Proto) (number : ℕ) (info : List ℕ) (k : Automata) (b : Bool) → is_same p q ≡ b → proto_of number ≡ Some q →
    None_in (of_packet p t word q info k) ⊎ IsHeard p (Some (reads number info)) (of_packet p t word q info k)
packet-orders p t word q number info k true e is =
    let new = after t q (Octets info) word k in
    let rejected = of_rejected p t word (rejected_in (told_by t q (Octets info) word k)) new in
    inr (record {
      info = info;
      rest = caps_after q new ++ rejected;
      is = rw e refl;
      none = none-append (caps_after q new) rejected (caps-none q new) (rejected-none p t word (rejected_in (told_by t q (Octets info) word k)) new);
      of = ap (λ n. Some (reads n info)) (number-some number q is ∙ ap proto_number (sym (same-proto p q e)));
    })
packet-orders p t word q number info k false e is =
    let new = after t q (Octets info) word k in
    let rejected = of_rejected p t word (rejected_in (told_by t q (Octets info) word k)) new in
    inl (rw e (none-append (caps_after q new) rejected (caps-none q new) (rejected-none p t word (rejected_in (told_by t q (Octets info) word k)) new)))

for-orders : (p : Proto) (t : LinkTables) (word : ℕ) (o : Option Proto) (number : ℕ) (info : List ℕ) (k : Automata) → there k (proto_of number) ≡ o →
    None_in (of_frame_for p t word o number info k) ⊎ IsHeard p (Some (reads number info)) (of_frame_for p t word o number info k)
for-orders p t word (Some q) number info k e = packet-orders p t word q number info k (is_same p q) refl (there-some k (proto_of number) q e)
for-orders p t word None number info k e = inl (payload-none p number info k (is_payload t k number))

frame-orders : (p : Proto) (t : LinkTables) (word number : ℕ) (info : List ℕ) (k : Automata) (b : Bool) →
    None_in (if b then of_frame_for p t word (there k (proto_of number)) number info k else [])
    ⊎ IsHeard p (Some (reads number info)) (if b then of_frame_for p t word (there k (proto_of number)) number info k else [])
frame-orders p t word number info k true = for-orders p t word (there k (proto_of number)) number info k refl
frame-orders p t word number info k false = inl tt

read-orders : (p : Proto) (t : LinkTables) (word : ℕ) (o : Option Read) (k : Automata) → None_in (of_read p t word o k) ⊎ IsHeard p o (of_read p t word o k)
read-orders p t word None k = inl tt
read-orders p t word (Some read) k = frame-orders p t word read.protocol read.info k ((read.protocol == proto_number Lcp) || is_opened k.lcp.state)

-- ---- events of which only the first may be a delivery

pub caused-first : (what : duet.Happening) → IsCaused what → IsNoReboot what
caused-first (duet.Commands event) none = tt
caused-first (duet.SetsCap cap) none = tt
caused-first (duet.RejectsProtocol id octets) none = tt
caused-first duet.Delivers none = absurd none
caused-first (duet.Loses place) none = tt
caused-first duet.Reboots none = absurd none

first-of : (es : List Event) → AreCaused es → DeliversFirst es
first-of [] none = tt
first-of (e ∷ es) none = (caused-first e.what none.0, none.1)

pub leads-makes : (sa sb : Setup) (a b : Duet) → Leads sa sb a b → Makes sa sb a b
leads-makes sa sb a b l = record { events = l.events; first = first-of l.events l.none; leads = l.leads }

first-append : (es fs : List Event) → DeliversFirst es → AreCaused fs → DeliversFirst (es ++ fs)
first-append [] fs first none = first-of fs none
first-append (e ∷ es) fs first none = (first.0, AllByRecursion-append _ es fs first.1 none)

makes-then : (sa sb : Setup) (a b c : Duet) → Makes sa sb a b → Leads sa sb b c → Makes sa sb a c
makes-then sa sb a b c one two = record {
  events = one.events ++ two.events;
  first = first-append one.events two.events one.first two.none;
  leads = run_append sa sb one.events two.events a ∙ ap (run sa sb two.events) one.leads ∙ two.leads;
}

-- ---- what goes out behind it

-- what an end came to is what its seat came to, as far as room is for what it sent
pub record SeatMakes (sa sb : Setup) (p : Proto) (s new : Seat) (a : Auto) (b : End) : Type 0 where
  pub auto : Auto
  pub end : IsEnd sa p new auto
  pub makes : Makes sa sb (seat_duet p a s b) (seat_duet p auto new b)

-- the automaton of p as it obeyed, and its packets in the frames that went out
pub record IsDone (p : Proto) (now : Link) (frames : List (List ℕ)) (did : Obeyed) : Type 0 where
  pub auto : auto_at now.automata p ≡ Some did.auto
  pub sent : packets_for p frames ≡ read_all did.sent

pub is-done : (sa : Setup) (p : Proto) (what : Happening) (l m word : ℕ) (rs : List Run) (k now : Link) (out : List Entry) (a : Auto) → Moves l m what rs word k now out →
    sa.table ≡ table_of k.tables p → auto_at k.automata p ≡ Some a → IsDone p now (pushes_on m out) (obeys_all sa.table word (orders_at l m p what rs k word) a)
is-done sa p what l m word rs k now out a moves table auto =
    let os = orders_at l m p what rs k word in
    record {
      auto = moves.automata p ∙ ap (auto_by k.tables p word os) auto ∙ ap (λ t. Some (obeys_all t word os a).auto) (sym table);
      sent = pushes-packets p m out
          ∙ ap read_all (moves.packets p ∙ ap (sent_by k.tables p word os) auto ∙ ap (λ t. (obeys_all t word os a).sent) (sym table));
    }

-- what was sent is noted and under way, as far as there is room for it
pub record GoesOut (sa sb : Setup) (p : Proto) (mark : ℕ) (s new : Seat) (d : Auto) (b : End) (packets : List Packet) : Type 0 where
  pub kept : IsLedgerOf d (ledger_at new.ledgers p)
  pub leads : Leads sa sb
      (duet_with d (noted_all (ledger_at s.ledgers p) packets) b (only p s.incoming) (only p s.outgoing ++ stamped (ledger_at s.ledgers p) mark packets))
      (seat_duet p d new b)

pub goes-out : (sa sb : Setup) (p : Proto) (mark : ℕ) (s : Seat) (now : Link) (frames : List (List ℕ)) (d : Auto) (b : End) (packets : List Packet) → packets_for p frames ≡ packets →
    IsLedgerOf d (noted_all (ledger_at s.ledgers p) packets) → GoesOut sa sb p mark s (seat_posted mark now frames s) d b packets
goes-out sa sb p mark s now frames d b packets is kept =
    let g = ledger_at s.ledgers p in
    let sent = marked_frames s.ledgers mark frames in
    let after = ledger_at (noted_frames s.ledgers frames) p in
    let ledger : after ≡ noted_all g packets = noted-frames s.ledgers p frames ∙ ap (noted_all g) is in
    let out : only p sent ≡ stamped g mark packets = marked-frames s.ledgers p mark frames ∙ ap (stamped g mark) is in
    record {
      kept = subst (λ g. IsLedgerOf d g) (sym ledger) kept;
      leads = subst (λ x. Leads sa sb x (duet_with d after b (only p s.incoming) (only p (queued s.outgoing sent))))
          (λ i. duet_with d (ledger i) b (only p s.incoming) (only p s.outgoing ++ out i))
          (queued-leads sa sb (end_of d after) b (only p s.incoming) p s.outgoing sent);
    }

post : (sa sb : Setup) (p : Proto) (mark : ℕ) (old s : Seat) (now : Link) (frames : List (List ℕ)) (a : Auto) (b : End) (did : Obeyed) →
    IsDone p now frames did → now.tables ≡ s.link.tables → IsSpoken sa p s.link.tables →
    IsLedgerOf did.auto (noted_all (ledger_at s.ledgers p) (read_all did.sent)) →
    Makes sa sb (seat_duet p a old b) (duet_with did.auto (noted_all (ledger_at s.ledgers p) (read_all did.sent)) b (only p s.incoming) (only p s.outgoing ++ stamped (ledger_at s.ledgers p) mark (read_all did.sent))) →
    SeatMakes sa sb p old (seat_posted mark now frames s) a b
post sa sb p mark old s now frames a b did is same spoken kept makes =
    let out = goes-out sa sb p mark s now frames did.auto b (read_all did.sent) is.sent kept in
    record {
      auto = did.auto;
      end = record { spoken = subst (IsSpoken sa p) (sym same) spoken; auto = is.auto; kept = out.kept };
      makes = makes-then sa sb _ _ _ makes out.leads;
    }

-- ---- orders that bring no frame, on the link of the event or another

-- what an end came to by events that deliver nothing is what its seat came to
pub record SeatLeads (sa sb : Setup) (p : Proto) (s new : Seat) (a : Auto) (b : End) : Type 0 where
  pub auto : Auto
  pub end : IsEnd sa p new auto
  pub leads : Leads sa sb (seat_duet p a s b) (seat_duet p auto new b)

pub then-leads : (sa sb : Setup) (p : Proto) (old mid new : Seat) (a : Auto) (b : End) (one : SeatMakes sa sb p old mid a b) → SeatLeads sa sb p mid new one.auto b → SeatMakes sa sb p old new a b
then-leads sa sb p old mid new a b one two = record { auto = two.auto; end = two.end; makes = makes-then sa sb _ _ _ one.makes two.leads }

pub quiet-leads : (sa sb : Setup) (p : Proto) (what : Happening) (l m word mark : ℕ) (rs : List Run) (s : Seat) (now : Link) (out : List Entry) (a : Auto) (b : End) →
    None_in (orders_at l m p what rs s.link word) → Moves l m what rs word s.link now out → IsEnd sa p s a → SeatLeads sa sb p s (seat_posted mark now (pushes_on m out) s) a b
quiet-leads sa sb p what l m word mark rs s now out a b none moves end =
    let os = orders_at l m p what rs s.link word in
    let did = obeys_all sa.table word os a in
    let obeys = orders-run sa sb a (ledger_at s.ledgers p) mark word b (only p s.incoming) (only p s.outgoing) os none end.kept in
    let is = is-done sa p what l m word rs s.link now out a moves end.spoken.table end.auto in
    let sent = goes-out sa sb p mark s now (pushes_on m out) did.auto b (read_all did.sent) is.sent obeys.kept in
    record {
      auto = did.auto;
      end = record { spoken = subst (IsSpoken sa p) (sym moves.tables) end.spoken; auto = is.auto; kept = sent.kept };
      leads = joined sa sb _ _ _ obeys.events sent.leads;
    }

-- frames that carry no packet of the protocol
pub plain-leads : (sa sb : Setup) (p : Proto) (mark : ℕ) (s : Seat) (frames : List (List ℕ)) (a : Auto) (b : End) → packets_for p frames ≡ [] → IsEnd sa p s a →
    SeatLeads sa sb p s (seat_posted mark s.link frames s) a b
plain-leads sa sb p mark s frames a b none end =
    let g = ledger_at s.ledgers p in
    let sent = goes-out sa sb p mark s s.link frames a b [] none end.kept in
    record {
      auto = a;
      end = record { spoken = end.spoken; auto = end.auto; kept = sent.kept };
      leads = record {
        events = sent.leads.events;
        none = sent.leads.none;
        leads = ap (λ ms. run sa sb sent.leads.events (duet_with a g b (only p s.incoming) ms)) (sym (append-nil (only p s.outgoing))) ∙ sent.leads.leads;
      };
    }

-- ---- the front frame is taken

pub heard-at : (k : Link) (f : Frame) (word : ℕ) (gs : Ledgers) (p : Proto) →
    ledger_at (heard_on k f word gs) p ≡ heard_by (ledger_at gs p) (auto_at k.automata p) f.mark (of_link p (Takes f.octets) k word)
heard-at k f word gs Lcp = refl
heard-at k f word gs Ip = refl
heard-at k f word gs Ipv6 = refl
heard-at k f word gs Osi = refl
heard-at k f word gs Mpls = refl
heard-at k f word gs Bacp = refl

heard-none : (g : Ledger) (a : Option Auto) (mark : ℕ) (os : List Order) → None_in os → heard_by g a mark os ≡ g
heard-none g a mark [] none = refl
heard-none g a mark (Commands event ∷ os) none = refl
heard-none g a mark (SetsCap cap ∷ os) none = refl
heard-none g a mark (Hears octets ∷ os) none = absurd none.0
heard-none g a mark (RejectsProtocol packet ∷ os) none = refl

-- a frame that isn't taken is lost for the protocol whose packet it carries
lost-if : (sa sb : Setup) (a b : End) (rest to_b : List Marked) (mark : ℕ) (packet : Packet) (same : Bool) →
    Leads sa sb (record { a = a; b = b; to_a = marked_for mark (if same then packet ∷ [] else []) ++ rest; to_b = to_b }) (record { a = a; b = b; to_a = rest; to_b = to_b })
unfolding at_first
lost-if sa sb a b rest to_b mark packet true = record { events = at_own (duet.Loses 1) 0 ∷ []; none = (tt, tt); leads = refl }
lost-if sa sb a b rest to_b mark packet false = record { events = []; none = tt; leads = refl }

lost-front : (sa sb : Setup) (a b : End) (rest to_b : List Marked) (mark : ℕ) (p : Proto) (c : Option Carried) →
    Leads sa sb (record { a = a; b = b; to_a = marked_for mark (packet_for p c) ++ rest; to_b = to_b }) (record { a = a; b = b; to_a = rest; to_b = to_b })
lost-front sa sb a b rest to_b mark p None = record { events = []; none = tt; leads = refl }
lost-front sa sb a b rest to_b mark p (Some c) = lost-if sa sb a b rest to_b mark c.packet (is_same p c.proto)

-- what an end came to that took a frame
record Took (sa sb : Setup) (p : Proto) (a : Auto) (g now : Ledger) (mark : ℕ) (b : End) (to_a rest to_b : List Marked) (did : Obeyed) : Type 0 where
  kept : IsLedgerOf did.auto (noted_all now (read_all did.sent))
  makes : Makes sa sb (duet_with a g b to_a to_b) (duet_with did.auto (noted_all now (read_all did.sent)) b rest (to_b ++ stamped now mark (read_all did.sent)))

-- it wasn't for the protocol, or not let in
passed : (sa sb : Setup) (p : Proto) (a : Auto) (g : Ledger) (f : Frame) (word : ℕ) (b : End) (rest to_b : List Marked) (os : List Order) → None_in os → IsLedgerOf a g →
    Took sa sb p a g g f.mark b (seen p f ++ rest) rest to_b (obeys_all sa.table word os a)
passed sa sb p a g f word b rest to_b os none kept =
    let obeys = orders-run sa sb a g f.mark word b rest to_b os none kept in
    record {
      kept = obeys.kept;
      makes = leads-makes sa sb _ _ (joined sa sb _ _ _ (lost-front sa sb (end_of a g) b rest to_b f.mark p (carried f.octets)) obeys.events);
    }

-- it came for the automaton: as a packet, or as octets that are none
heard-as : (sa sb : Setup) (p : Proto) (a : Auto) (g : Ledger) (f : Frame) (word : ℕ) (b : End) (rest to_b : List Marked) (info : List ℕ) (os : List Order) (o : Option Packet) →
    packet_of info ≡ o → packet_for p (carried f.octets) ≡ read_one o → None_in os → IsLedgerOf a g →
    Took sa sb p a g (heard_packet g (Some a) f.mark o) f.mark b (seen p f ++ rest) rest to_b (obeys_all sa.table word (Hears info ∷ os) a)
heard-as sa sb p a g f word b rest to_b info os (Some packet) reads carries none kept =
    let m : Marked = record { mark = f.mark; packet = packet } in
    let run = frame-run sa sb a g word b m rest to_b info os reads none kept in
    let queue : seen p f ++ rest ≡ m ∷ rest = ap (λ ps. marked_for f.mark ps ++ rest) carries in
    record {
      kept = run.kept;
      makes = record { events = run.events.events; first = run.events.first; leads = ap (λ ms. duet.run sa sb run.events.events (duet_with a g b ms to_b)) queue ∙ run.events.leads };
    }
heard-as sa sb p a g f word b rest to_b info os None reads carries none kept =
    let obeys = orders-run sa sb a g f.mark word b rest to_b os none kept in
    let same : obeys_all sa.table word (Hears info ∷ os) a ≡ obeys_all sa.table word os a =
    ap (λ o. let first = obeyed (take_read sa.table a o word) in and_sends first.sent (obeys_all sa.table word os first.auto)) reads in
    let queue : seen p f ++ rest ≡ rest = ap (λ ps. marked_for f.mark ps ++ rest) carries in
    let makes = leads-makes sa sb _ _ obeys.events in
    subst (λ x. Took sa sb p a g g f.mark b (seen p f ++ rest) rest to_b x) (sym same) (record {
      kept = obeys.kept;
      makes = record { events = makes.events; first = makes.first; leads = ap (λ ms. duet.run sa sb makes.events (duet_with a g b ms to_b)) queue ∙ makes.leads };
    })

own-number : (p : Proto) → proto_of (proto_number p) ≡ Some p
own-number Lcp = refl
own-number Ip = refl
own-number Ipv6 = refl
own-number Osi = refl
own-number Mpls = refl
own-number Bacp = refl

-- a frame that a link reads as the protocol's carries that
carries-read : (d : DeframerState) (p : Proto) (octets info : List ℕ) → d.standing ≡ fresh → IsSent octets → (feed_step d octets).left.frame ≡ Some (reads (proto_number p) info) →
    packet_for p (carried octets) ≡ read_one (packet_of info)
unfolding carried
carries-read d p octets info stands sent is =
    let here : (feed_step d (enc sent.form (sender_number sent.sender) sent.info)).left.frame ≡ Some (reads (proto_number p) info) = ap (λ xs. (feed_step d xs).left.frame) (sym sent.is) ∙ is in
    let same : reads (proto_number p) info ≡ reads (sender_number sent.sender) sent.info = lent-as d sent.form sent.sender sent.info (reads (proto_number p) info) stands here in
    let found : read_in octets ≡ Some (reads (proto_number p) info) = ap read_in sent.is ∙ sender-read sent.form sent.sender sent.info sent.few ∙ ap (λ r. Some r) (sym same) in
    ap (λ o. packet_for p (carried_by o)) found
    ∙ ap (λ o. packet_for p (carried_as o info)) (own-number p)
    ∙ of-info p p (packet_of info) true (eq-eqb (proto_number p) (proto_number p) refl)

took-by : (sa sb : Setup) (p : Proto) (word : ℕ) (f : Frame) (rest : List Frame) (s : Seat) (a : Auto) (b : End) (read : Option Read) (os more : List Order) →
    IsSettled s.link → IsSent f.octets → IsLedgerOf a (ledger_at s.ledgers p) → (feed_step (read_by s.link.automata.lcp s.link.deframer) f.octets).left.frame ≡ read →
    None_in os ⊎ IsHeard p read os → None_in more →
    ledger_at (heard_on s.link f word s.ledgers) p ≡ heard_by (ledger_at s.ledgers p) (Some a) f.mark os →
    Took sa sb p a (ledger_at s.ledgers p) (ledger_at (heard_on s.link f word s.ledgers) p) f.mark b (seen p f ++ only p rest) (only p rest) (only p s.outgoing) (obeys_all sa.table word (os ++ more) a)
took-by sa sb p word f rest s a b read os more settled sent kept is (inl none) quiet now =
    let g = ledger_at s.ledgers p in
    let same = now ∙ heard-none g (Some a) f.mark os none in
    subst (λ n. Took sa sb p a g n f.mark b (seen p f ++ only p rest) (only p rest) (only p s.outgoing) (obeys_all sa.table word (os ++ more) a)) (sym same)
    (passed sa sb p a g f word b (only p rest) (only p s.outgoing) (os ++ more) (none-append os more none quiet) kept)
took-by sa sb p word f rest s a b read os more settled sent kept is (inr heard) quiet now =
    let g = ledger_at s.ledgers p in
    let d = read_by s.link.automata.lcp s.link.deframer in
    let same = now ∙ ap (heard_by g (Some a) f.mark) heard.is in
    let carries = carries-read d p f.octets heard.info settled.stands sent (is ∙ heard.of) in
    let did = heard-as sa sb p a g f word b (only p rest) (only p s.outgoing) heard.info (heard.rest ++ more) (packet_of heard.info) refl carries (none-append heard.rest more heard.none quiet) kept in
    subst (λ n. Took sa sb p a g n f.mark b (seen p f ++ only p rest) (only p rest) (only p s.outgoing) (obeys_all sa.table word (os ++ more) a)) (sym same)
    (subst (λ os. Took sa sb p a g (heard_packet g (Some a) f.mark (packet_of heard.info)) f.mark b (seen p f ++ only p rest) (only p rest) (only p s.outgoing) (obeys_all sa.table word (os ++ more) a)) (sym heard.is) did)

took : (sa sb : Setup) (p : Proto) (word : ℕ) (f : Frame) (rest : List Frame) (s : Seat) (a : Auto) (b : End) (more : List Order) → IsSettled s.link → IsSent f.octets → IsEnd sa p s a → None_in more →
    Took sa sb p a (ledger_at s.ledgers p) (ledger_at (heard_on s.link f word s.ledgers) p) f.mark b (seen p f ++ only p rest) (only p rest) (only p s.outgoing) (obeys_all sa.table word (of_link p (Takes f.octets) s.link word ++ more) a)
took sa sb p word f rest s a b more settled sent end none =
    let k = s.link in
    let read = (feed_step (read_by k.automata.lcp k.deframer) f.octets).left.frame in
    let now = heard-at k f word s.ledgers p ∙ ap (λ o. heard_by (ledger_at s.ledgers p) o f.mark (of_link p (Takes f.octets) k word)) end.auto in
    took-by sa sb p word f rest s a b read (of_read p k.tables word read k.automata) more settled sent end.kept refl (read-orders p k.tables word read k.automata) none now

pub taking-makes : (sa sb : Setup) (p : Proto) (l word : ℕ) (rs : List Run) (f : Frame) (rest : List Frame) (s : Seat) (now : Link) (out : List Entry) (a : Auto) (b : End) → s.incoming ≡ f ∷ rest →
    IsSettled s.link → IsSent f.octets → Moves l l (Takes f.octets) rs word s.link now out → IsEnd sa p s a → SeatMakes sa sb p s (seat_posted f.mark now (pushes_on l out) (seat_heard word f rest s)) a b
taking-makes sa sb p l word rs f rest s now out a b front settled sent moves end =
    let k = s.link in
    let what = Takes f.octets in
    let os = of_link p what k word ++ of_runs l p rs in
    let did = obeys_all sa.table word os a in
    let took = took sa sb p word f rest s a b (of_runs l p rs) settled sent end (runs-none l p rs) in
    let queue : seat_duet p a s b ≡ duet_with a (ledger_at s.ledgers p) b (seen p f ++ only p rest) (only p s.outgoing) = ap (λ frames. duet_with a (ledger_at s.ledgers p) b (only p frames) (only p s.outgoing)) front in
    let done = subst (λ own. IsDone p now (pushes_on l out) (obeys_all sa.table word (own ++ of_runs l p rs) a)) (own-here l p what k word) (is-done sa p what l l word rs k now out a moves end.spoken.table end.auto) in
    post sa sb p f.mark s (seat_heard word f rest s) now (pushes_on l out) a b did done moves.tables end.spoken took.kept
    (record { events = took.makes.events; first = took.makes.first; leads = ap (run sa sb took.makes.events) queue ∙ took.makes.leads })

-- ---- a frame is lost

pub none-without : {X : Type 0} (xs : List X) → without 0 xs ≡ xs
none-without [] = refl
none-without (x ∷ xs) = refl

-- one list is the other without what stands at some place, or nothing is missing
abbrev pub IsLess : List Marked → List Marked → Type 0
IsLess ms all = (i : ℕ) × (ms ≡ without i all)

less-front : (mark : ℕ) (packet : Packet) (same : Bool) (ms : List Marked) → IsLess ms (marked_for mark (if same then packet ∷ [] else []) ++ ms)
less-front mark packet true ms = (1, refl)
less-front mark packet false ms = (0, sym (none-without ms))

less-behind : (m : Marked) (ms all : List Marked) → IsLess ms all → IsLess (m ∷ ms) (m ∷ all)
less-behind m ms all (zero, is) = (0, ap (λ xs. m ∷ xs) (is ∙ none-without all))
less-behind m ms all (suc i, is) = (suc (suc i), ap (λ xs. m ∷ xs) is)

less-if : (mark : ℕ) (packet : Packet) (same : Bool) (ms all : List Marked) → IsLess ms all →
    IsLess (marked_for mark (if same then packet ∷ [] else []) ++ ms) (marked_for mark (if same then packet ∷ [] else []) ++ all)
less-if mark packet true ms all less = less-behind (record { mark = mark; packet = packet }) ms all less
less-if mark packet false ms all less = less

pub less-first : (mark : ℕ) (p : Proto) (c : Option Carried) (ms : List Marked) → IsLess ms (marked_for mark (packet_for p c) ++ ms)
less-first mark p None ms = (0, sym (none-without ms))
less-first mark p (Some c) ms = less-front mark c.packet (is_same p c.proto) ms

less-more : (mark : ℕ) (p : Proto) (c : Option Carried) (ms all : List Marked) → IsLess ms all → IsLess (marked_for mark (packet_for p c) ++ ms) (marked_for mark (packet_for p c) ++ all)
less-more mark p None ms all less = less
less-more mark p (Some c) ms all less = less-if mark c.packet (is_same p c.proto) ms all less

-- the frame of a place carries a packet of the protocol or not
pub less-without : (p : Proto) (place : ℕ) (frames : List Frame) → IsLess (only p (without place frames)) (only p frames)
less-without p place [] = (0, refl)
less-without p zero (f ∷ fs) = (0, sym (none-without (only p (f ∷ fs))))
less-without p (suc zero) (f ∷ fs) = less-first f.mark p (carried f.octets) (only p fs)
less-without p (suc (suc place)) (f ∷ fs) = less-more f.mark p (carried f.octets) (only p (without (suc place) fs)) (only p fs) (less-without p (suc place) fs)

pub loses-makes : (sa sb : Setup) (p : Proto) (place : ℕ) (s : Seat) (a : Auto) (b : End) → IsEnd sa p s a → SeatMakes sa sb p s (seat_loses place s) a b
unfolding at_first
loses-makes sa sb p place s a b end =
    let less = less-without p place s.incoming in
    record {
      auto = a;
      end = record { spoken = end.spoken; auto = end.auto; kept = end.kept };
      makes = record {
        events = at_own (duet.Loses less.0) 0 ∷ [];
        first = (tt, tt);
        leads = ap (λ ms. duet_with a (ledger_at s.ledgers p) b ms (only p s.outgoing)) (sym less.1);
      };
    }
