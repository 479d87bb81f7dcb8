-- What a step of a link is to each of its automata.
use Rattle.std.proofs.Common.{◌≡◌, ℕ, ◌+◌, ◌%◌, ◌≤◌, Bool, true, false, if◌then◌else◌, List, [], ◌∷◌, ◌++◌, length, refl, sym, ap, ◌∙◌, append_assoc, append-nil, arith}
use Rattle.std.specs.Prelude.{◌==◌, ◌||◌, Option, Some, None}
use Rattle.std.specs.List.{AllByRecursion, flat_map}
use Rattle.std.proofs.lemmas.Grind.{flat_map-append}
use Rattle.std.proofs.lemmas.Iterator.Adapters.{option_map_id}
use Rattle.ppp_auto.specs.Auto.{Auto, is_opened}
use Rattle.ppp_auto.specs.Outbox.{Entry as Told, Send, Signal}
use Rattle.ppp_auto.specs.declared.auto_event.AutoEvent.{AutoEvent}
use Rattle.ppp_auto.specs.declared.auto_event.AutoEvent.TheVariants.{Up, Down, AdminOpen, AdminClose, Timeout, RejectedWell, RejectedBadly}
use Rattle.ppp_auto.specs.declared.layer_signal.LayerSignal.{LayerSignal}
use Rattle.ppp_auto.specs.declared.layer_signal.LayerSignal.TheVariants as signal
use Rattle.ppp_packet.specs.Proto.{proto_number, proto_of}
use Rattle.ppp_packet.specs.declared.proto.Proto.{Proto}
use Rattle.ppp_packet.specs.declared.proto.Proto.TheVariants.{Lcp, Ip, Ipv6, Osi, Mpls, Bacp}
use Rattle.ppp_frame.specs.declared.form.Form.{Form}
use Rattle.ppp_frame.specs.Deframer.{DeframerState, feed_step}
use Rattle.ppp_frame.specs.Frame.{enc}
use Rattle.ppp_frame.specs.Header.{Read, reads}
use Rattle.ppp_link.specs.Automata.{Automata, all_changed, auto_at, cap_of, changed, form_for, whole_form, with_cap}
use Rattle.ppp_link.specs.Link.{Fed, Link, event_did, fed_with, read_by}
use Rattle.ppp_link.specs.LinkOut.{Entry, Push, Payload}
use Rattle.ppp_link.specs.LinkTables.{LinkTables, table_of}
use Rattle.ppp_link.specs.Proto.{nets}
use Rattle.ppp_link.specs.Steps.{Did, Given, Event, Packet, after, and_tells, auto_given, begins, does, does_rejected, each_does, hears, hears_as, hears_other, hears_read, is_payload, reject_packet, rejected_if, rejected_in, rejects, runs, settled_after, signal_told, takes, there, told_all, told_by, told_if}
use Rattle.ppp_link.specs.declared.link_out.TheConstants.{MOST_PUSH}
use Rattle.ppp_trunk.specs.Moves.{goes_with}
use Rattle.ppp_trunk.specs.Orders.{Order, Commands, SetsCap, auto_by, caps_after, is_same, obeys, obeys_all, of_frame, of_frame_for, of_given, of_link, of_other, of_packet, of_read, of_rejected, of_rejected_there, order_of, own_order, packet_if, packets_in, read_in, rejects_as, sent_by}
use Rattle.ppp_trunk.specs.Steps.{Happening, LineUp, LineDown, Opens, Closes, TimesOut, Takes, link_does}
use Rattle.ppp_trunk.proofs.FrameLemmas.{control-read, enc-longer}

-- ---- orders, one behind the other

obeys-auto : (t : LinkTables) (p : Proto) (word : ℕ) (os more : List Order) (a : Auto) →
    (obeys_all (table_of t p) word (os ++ more) a).auto ≡ (obeys_all (table_of t p) word more (obeys_all (table_of t p) word os a).auto).auto
obeys-auto t p word [] more a = refl
obeys-auto t p word (o ∷ os) more a = obeys-auto t p word os more (obeys (table_of t p) word o a).auto

obeys-sent : (t : LinkTables) (p : Proto) (word : ℕ) (os more : List Order) (a : Auto) →
    (obeys_all (table_of t p) word (os ++ more) a).sent
    ≡ (obeys_all (table_of t p) word os a).sent ++ (obeys_all (table_of t p) word more (obeys_all (table_of t p) word os a).auto).sent
obeys-sent t p word [] more a = refl
obeys-sent t p word (o ∷ os) more a =
    let first = obeys (table_of t p) word o a in
    ap (λ xs. first.sent ++ xs) (obeys-sent t p word os more first.auto)
    ∙ sym (append_assoc first.sent (obeys_all (table_of t p) word os first.auto).sent (obeys_all (table_of t p) word more (obeys_all (table_of t p) word os first.auto).auto).sent)

pub auto_by-append : (t : LinkTables) (p : Proto) (word : ℕ) (os more : List Order) (o : Option Auto) →
    auto_by t p word (os ++ more) o ≡ auto_by t p word more (auto_by t p word os o)
auto_by-append t p word os more None = refl
auto_by-append t p word os more (Some a) = ap (λ (a : Auto). Some a) (obeys-auto t p word os more a)

pub sent_by-append : (t : LinkTables) (p : Proto) (word : ℕ) (os more : List Order) (o : Option Auto) →
    sent_by t p word (os ++ more) o ≡ sent_by t p word os o ++ sent_by t p word more (auto_by t p word os o)
sent_by-append t p word os more None = refl
sent_by-append t p word os more (Some a) = obeys-sent t p word os more a

pub no-orders : (t : LinkTables) (p : Proto) (word : ℕ) (o : Option Auto) → (auto_by t p word [] o ≡ o) × (sent_by t p word [] o ≡ [])
no-orders t p word None = (refl, refl)
no-orders t p word (Some a) = (refl, refl)

-- ---- what happens to one of the automata

own-at : (t : LinkTables) (k : Automata) (word : ℕ) (p q : Proto) (given : Given) →
    auto_at (changed k q (auto_given (table_of t q) given word)) p ≡ auto_by t p word (own_order p q given) (auto_at k p)
own-at t k word Lcp Lcp (Event event) = refl
own-at t k word Lcp Lcp (Packet octets) = refl
own-at t k word Lcp Ip given = refl
own-at t k word Lcp Ipv6 given = refl
own-at t k word Lcp Osi given = refl
own-at t k word Lcp Mpls given = refl
own-at t k word Lcp Bacp given = refl
own-at t k word Ip Lcp given = sym (option_map_id k.ip)
own-at t k word Ip Ip (Event event) = refl
own-at t k word Ip Ip (Packet octets) = refl
own-at t k word Ip Ipv6 given = sym (option_map_id k.ip)
own-at t k word Ip Osi given = sym (option_map_id k.ip)
own-at t k word Ip Mpls given = sym (option_map_id k.ip)
own-at t k word Ip Bacp given = sym (option_map_id k.ip)
own-at t k word Ipv6 Lcp given = sym (option_map_id k.ipv6)
own-at t k word Ipv6 Ip given = sym (option_map_id k.ipv6)
own-at t k word Ipv6 Ipv6 (Event event) = refl
own-at t k word Ipv6 Ipv6 (Packet octets) = refl
own-at t k word Ipv6 Osi given = sym (option_map_id k.ipv6)
own-at t k word Ipv6 Mpls given = sym (option_map_id k.ipv6)
own-at t k word Ipv6 Bacp given = sym (option_map_id k.ipv6)
own-at t k word Osi Lcp given = sym (option_map_id k.osi)
own-at t k word Osi Ip given = sym (option_map_id k.osi)
own-at t k word Osi Ipv6 given = sym (option_map_id k.osi)
own-at t k word Osi Osi (Event event) = refl
own-at t k word Osi Osi (Packet octets) = refl
own-at t k word Osi Mpls given = sym (option_map_id k.osi)
own-at t k word Osi Bacp given = sym (option_map_id k.osi)
own-at t k word Mpls Lcp given = sym (option_map_id k.mpls)
own-at t k word Mpls Ip given = sym (option_map_id k.mpls)
own-at t k word Mpls Ipv6 given = sym (option_map_id k.mpls)
own-at t k word Mpls Osi given = sym (option_map_id k.mpls)
own-at t k word Mpls Mpls (Event event) = refl
own-at t k word Mpls Mpls (Packet octets) = refl
own-at t k word Mpls Bacp given = sym (option_map_id k.mpls)
own-at t k word Bacp Lcp given = sym (option_map_id k.bacp)
own-at t k word Bacp Ip given = sym (option_map_id k.bacp)
own-at t k word Bacp Ipv6 given = sym (option_map_id k.bacp)
own-at t k word Bacp Osi given = sym (option_map_id k.bacp)
own-at t k word Bacp Mpls given = sym (option_map_id k.bacp)
own-at t k word Bacp Bacp (Event event) = refl
own-at t k word Bacp Bacp (Packet octets) = refl

-- the caps that LCP's row leaves
capped-at : (t : LinkTables) (word : ℕ) (k : Automata) (p : Proto) (cap : ℕ) →
    auto_at (all_changed k (with_cap cap)) p ≡ auto_by t p word (SetsCap cap ∷ []) (auto_at k p)
capped-at t word k Lcp cap = refl
capped-at t word k Ip cap = refl
capped-at t word k Ipv6 cap = refl
capped-at t word k Osi cap = refl
capped-at t word k Mpls cap = refl
capped-at t word k Bacp cap = refl

settled-at : (t : LinkTables) (word : ℕ) (q : Proto) (k : Automata) (p : Proto) →
    auto_at (settled_after q k) p ≡ auto_by t p word (caps_after q (settled_after q k)) (auto_at k p)
settled-at t word Lcp k p = capped-at t word k p _
settled-at t word Ip k p = sym (no-orders t p word (auto_at k p)).0
settled-at t word Ipv6 k p = sym (no-orders t p word (auto_at k p)).0
settled-at t word Osi k p = sym (no-orders t p word (auto_at k p)).0
settled-at t word Mpls k p = sym (no-orders t p word (auto_at k p)).0
settled-at t word Bacp k p = sym (no-orders t p word (auto_at k p)).0

caps-send : (t : LinkTables) (p : Proto) (word : ℕ) (q : Proto) (k : Automata) (o : Option Auto) → sent_by t p word (caps_after q k) o ≡ []
caps-send t p word Lcp k None = refl
caps-send t p word Lcp k (Some a) = refl
caps-send t p word Ip k o = (no-orders t p word o).1
caps-send t p word Ipv6 k o = (no-orders t p word o).1
caps-send t p word Osi k o = (no-orders t p word o).1
caps-send t p word Mpls k o = (no-orders t p word o).1
caps-send t p word Bacp k o = (no-orders t p word o).1

pub given-auto : (p : Proto) (t : LinkTables) (word : ℕ) (q : Proto) (given : Given) (k : Automata) →
    auto_at (after t q given word k) p ≡ auto_by t p word (of_given p t word q given k) (auto_at k p)
given-auto p t word q given k =
    let own = changed k q (auto_given (table_of t q) given word) in
    settled-at t word q own p
    ∙ ap (auto_by t p word (caps_after q (settled_after q own))) (own-at t k word p q given)
    ∙ sym (auto_by-append t p word (own_order p q given) (caps_after q (settled_after q own)) (auto_at k p))

-- ---- the packets among what is told

-- the packets of a protocol among the entries of a link
abbrev pub link_packet : Proto → Entry → List (List ℕ)
link_packet p (Push octets) = packet_if p (read_in octets)
link_packet p entry = []

abbrev pub link_packets : Proto → List Entry → List (List ℕ)
link_packets p es = flat_map (link_packet p) es

abbrev pub only_if : Bool → List (List ℕ) → List (List ℕ)
only_if true xs = xs
only_if false xs = []

signal-none : (p q : Proto) (told : LayerSignal) → link_packets p (signal_told q told) ≡ []
signal-none p Lcp signal.Up = refl
signal-none p Lcp signal.Down = refl
signal-none p Lcp signal.Started = refl
signal-none p Lcp signal.Finished = refl
signal-none p Lcp (signal.ProtocolRejected n) = refl
signal-none p Ip signal.Up = refl
signal-none p Ip signal.Down = refl
signal-none p Ip signal.Started = refl
signal-none p Ip signal.Finished = refl
signal-none p Ip (signal.ProtocolRejected n) = refl
signal-none p Ipv6 signal.Up = refl
signal-none p Ipv6 signal.Down = refl
signal-none p Ipv6 signal.Started = refl
signal-none p Ipv6 signal.Finished = refl
signal-none p Ipv6 (signal.ProtocolRejected n) = refl
signal-none p Osi signal.Up = refl
signal-none p Osi signal.Down = refl
signal-none p Osi signal.Started = refl
signal-none p Osi signal.Finished = refl
signal-none p Osi (signal.ProtocolRejected n) = refl
signal-none p Mpls signal.Up = refl
signal-none p Mpls signal.Down = refl
signal-none p Mpls signal.Started = refl
signal-none p Mpls signal.Finished = refl
signal-none p Mpls (signal.ProtocolRejected n) = refl
signal-none p Bacp signal.Up = refl
signal-none p Bacp signal.Down = refl
signal-none p Bacp signal.Started = refl
signal-none p Bacp signal.Finished = refl
signal-none p Bacp (signal.ProtocolRejected n) = refl

-- a frame that is sent has no more octets than the longest
abbrev pub IsShortPush : Entry → Type 0
IsShortPush (Push octets) = length octets ≤ MOST_PUSH
IsShortPush entry = Unit {0}

abbrev pub AllShort : List Entry → Type 0
AllShort es = AllByRecursion IsShortPush es

short-front : (xs ys : List Entry) → AllShort (xs ++ ys) → AllShort xs
short-front [] ys short = tt
short-front (x ∷ xs) ys short = (short.0, short-front xs ys short.1)

pub short-behind : (xs ys : List Entry) → AllShort (xs ++ ys) → AllShort ys
short-behind [] ys short = short
short-behind (x ∷ xs) ys short = short-behind xs ys short.1

none-if : (b : Bool) → [] ≡ only_if b []
none-if true = refl
none-if false = refl

one-if : (b : Bool) (octets : List ℕ) (more : List (List ℕ)) → (if b then octets ∷ [] else []) ++ only_if b more ≡ only_if b (octets ∷ more)
one-if true octets more = refl
one-if false octets more = refl

pub packets-told : (form : Form) (p q : Proto) (es : List Told) → AllShort (told_all form q es) →
    link_packets p (told_all form q es) ≡ only_if (is_same p q) (packets_in es)
packets-told form p q [] short = none-if (is_same p q)
packets-told form p q (Signal told ∷ es) short =
    flat_map-append (link_packet p) (signal_told q told) (told_all form q es)
    ∙ ap (λ xs. xs ++ link_packets p (told_all form q es)) (signal-none p q told)
    ∙ packets-told form p q es (short-behind (signal_told q told) (told_all form q es) short)
packets-told form p q (Send octets ∷ es) short =
    let few = short.0 in
    let fits = enc-longer form (proto_number q) octets in
    ap (λ r. packet_if p r ++ link_packets p (told_all form q es)) (control-read form q octets (omega (arith, few, fits)))
    ∙ ap (λ xs. (if is_same p q then octets ∷ [] else []) ++ xs) (packets-told form p q es short.1)
    ∙ one-if (is_same p q) octets (packets_in es)

pub same-proto : (p q : Proto) → is_same p q ≡ true → p ≡ q
same-proto Lcp Lcp e = refl
same-proto Lcp Ip e = absurd (cc)
same-proto Lcp Ipv6 e = absurd (cc)
same-proto Lcp Osi e = absurd (cc)
same-proto Lcp Mpls e = absurd (cc)
same-proto Lcp Bacp e = absurd (cc)
same-proto Ip Lcp e = absurd (cc)
same-proto Ip Ip e = refl
same-proto Ip Ipv6 e = absurd (cc)
same-proto Ip Osi e = absurd (cc)
same-proto Ip Mpls e = absurd (cc)
same-proto Ip Bacp e = absurd (cc)
same-proto Ipv6 Lcp e = absurd (cc)
same-proto Ipv6 Ip e = absurd (cc)
same-proto Ipv6 Ipv6 e = refl
same-proto Ipv6 Osi e = absurd (cc)
same-proto Ipv6 Mpls e = absurd (cc)
same-proto Ipv6 Bacp e = absurd (cc)
same-proto Osi Lcp e = absurd (cc)
same-proto Osi Ip e = absurd (cc)
same-proto Osi Ipv6 e = absurd (cc)
same-proto Osi Osi e = refl
same-proto Osi Mpls e = absurd (cc)
same-proto Osi Bacp e = absurd (cc)
same-proto Mpls Lcp e = absurd (cc)
same-proto Mpls Ip e = absurd (cc)
same-proto Mpls Ipv6 e = absurd (cc)
same-proto Mpls Osi e = absurd (cc)
same-proto Mpls Mpls e = refl
same-proto Mpls Bacp e = absurd (cc)
same-proto Bacp Lcp e = absurd (cc)
same-proto Bacp Ip e = absurd (cc)
same-proto Bacp Ipv6 e = absurd (cc)
same-proto Bacp Osi e = absurd (cc)
same-proto Bacp Mpls e = absurd (cc)
same-proto Bacp Bacp e = refl

own-sent-by : (t : LinkTables) (q : Proto) (word : ℕ) (given : Given) (o : Option Auto) →
    packets_in (told_if (table_of t q) o given word) ≡ sent_by t q word (order_of given ∷ []) o
own-sent-by t q word given None = refl
own-sent-by t q word (Event event) (Some a) = sym (append-nil _)
own-sent-by t q word (Packet octets) (Some a) = sym (append-nil _)

own-sent : (p : Proto) (t : LinkTables) (word : ℕ) (q : Proto) (given : Given) (k : Automata) (b : Bool) → is_same p q ≡ b →
    only_if b (packets_in (told_by t q given word k)) ≡ sent_by t p word (if b then order_of given ∷ [] else []) (auto_at k p)
own-sent p t word q given k true e = rw (same-proto p q e) (own-sent-by t q word given (auto_at k q))
own-sent p t word q given k false e = sym (no-orders t p word (auto_at k p)).1

given-sent : (p : Proto) (t : LinkTables) (word : ℕ) (q : Proto) (given : Given) (k : Automata) →
    only_if (is_same p q) (packets_in (told_by t q given word k)) ≡ sent_by t p word (of_given p t word q given k) (auto_at k p)
given-sent p t word q given k =
    let caps = caps_after q (after t q given word k) in
    own-sent p t word q given k (is_same p q) refl
    ∙ sym (append-nil (sent_by t p word (own_order p q given) (auto_at k p)))
    ∙ ap (λ xs. sent_by t p word (own_order p q given) (auto_at k p) ++ xs) (sym (caps-send t p word q (after t q given word k) (auto_by t p word (own_order p q given) (auto_at k p))))
    ∙ sym (sent_by-append t p word (own_order p q given) caps (auto_at k p))

-- ---- steps, one behind the other

-- what was done between two moments is these orders to the automaton of p, and its packets among the entries are those it sent
pub record Tracks (p : Proto) (t : LinkTables) (word : ℕ) (os : List Order) (before after : Did) : Type 0 where
  pub auto : auto_at after.automata p ≡ auto_by t p word os (auto_at before.automata p)
  pub short : AllShort after.out → AllShort before.out
  pub sent : AllShort after.out → link_packets p after.out ≡ link_packets p before.out ++ sent_by t p word os (auto_at before.automata p)

pub behind : (p : Proto) (t : LinkTables) (word : ℕ) (os more : List Order) (a b c : Did) → Tracks p t word os a b → Tracks p t word more b c → Tracks p t word (os ++ more) a c
behind p t word os more a b c one two =
    let first = auto_at a.automata p in
    record {
      auto = two.auto ∙ ap (auto_by t p word more) one.auto ∙ sym (auto_by-append t p word os more first);
      short = λ short. one.short (two.short short);
      sent = λ short.
          two.sent short
          ∙ ap (λ xs. xs ++ sent_by t p word more (auto_at b.automata p)) (one.sent (two.short short))
          ∙ append_assoc (link_packets p a.out) (sent_by t p word os first) (sent_by t p word more (auto_at b.automata p))
          ∙ ap (λ xs. link_packets p a.out ++ xs) (
          ap (λ o. sent_by t p word os first ++ sent_by t p word more o) one.auto
          ∙ sym (sent_by-append t p word os more first)
          );
    }

pub nothing : (p : Proto) (t : LinkTables) (word : ℕ) (did : Did) → Tracks p t word [] did did
nothing p t word did = record {
  auto = sym (no-orders t p word (auto_at did.automata p)).0;
  short = λ short. short;
  sent = λ short. sym (append-nil (link_packets p did.out)) ∙ ap (λ xs. link_packets p did.out ++ xs) (sym (no-orders t p word (auto_at did.automata p)).1);
}

given-tracks : (p : Proto) (t : LinkTables) (word : ℕ) (q : Proto) (given : Given) (did : Did) →
    Tracks p t word (of_given p t word q given did.automata) did (does t q given word did)
unfolding does
given-tracks p t word q given did =
    let form = form_for (after t q given word did.automata).lcp q in
    let es = told_by t q given word did.automata in
    record {
      auto = given-auto p t word q given did.automata;
      short = λ short. short-front did.out (told_all form q es) short;
      sent = λ short.
          flat_map-append (link_packet p) did.out (told_all form q es)
          ∙ ap (λ xs. link_packets p did.out ++ xs) (packets-told form p q es (short-behind did.out (told_all form q es) short) ∙ given-sent p t word q given did.automata);
    }

-- ---- control protocols that go Up or Down together

chain : (p : Proto) (t : LinkTables) (word : ℕ) (event : AutoEvent) (did : Did) →
    Tracks p t word (((own_order p Ip (Event event) ++ []) ++ (own_order p Ipv6 (Event event) ++ [])) ++ ((own_order p Osi (Event event) ++ []) ++ (own_order p Mpls (Event event) ++ []))) did (each_does t nets event word did)
unfolding each_does
chain p t word event did =
    let one = does t Ip (Event event) word did in
    let two = does t Ipv6 (Event event) word one in
    let three = does t Osi (Event event) word two in
    let four = does t Mpls (Event event) word three in
    behind p t word _ _ did two four
    (behind p t word _ _ did one two (given-tracks p t word Ip (Event event) did) (given-tracks p t word Ipv6 (Event event) one))
    (behind p t word _ _ two three four (given-tracks p t word Osi (Event event) two) (given-tracks p t word Mpls (Event event) three))

with-bacp : (p : Proto) (t : LinkTables) (word : ℕ) (event : AutoEvent) (did : Did) →
    Tracks p t word ((((own_order p Ip (Event event) ++ []) ++ (own_order p Ipv6 (Event event) ++ [])) ++ ((own_order p Osi (Event event) ++ []) ++ (own_order p Mpls (Event event) ++ []))) ++ (own_order p Bacp (Event event) ++ []))
    did (each_does t (nets ++ Bacp ∷ []) event word did)
unfolding each_does
with-bacp p t word event did =
    let four = each_does t nets event word did in
    let five = does t Bacp (Event event) word four in
    behind p t word _ _ did four five (chain p t word event did) (given-tracks p t word Bacp (Event event) four)

-- the orders of a protocol when those above LCP go Up or Down, and BACP with them where that is said
abbrev pub of_group : Proto → Bool → AutoEvent → List Order
of_group p bacp event = if goes_with p bacp then Commands event ∷ [] else []

pub run-tracks : (p : Proto) (t : LinkTables) (bacp : Bool) (word : ℕ) (event : AutoEvent) (did : Did) → Tracks p t word (of_group p bacp event) did (each_does t (runs bacp) event word did)
run-tracks Lcp t true word event did = with-bacp Lcp t word event did
run-tracks Ip t true word event did = with-bacp Ip t word event did
run-tracks Ipv6 t true word event did = with-bacp Ipv6 t word event did
run-tracks Osi t true word event did = with-bacp Osi t word event did
run-tracks Mpls t true word event did = with-bacp Mpls t word event did
run-tracks Bacp t true word event did = with-bacp Bacp t word event did
run-tracks Lcp t false word event did = chain Lcp t word event did
run-tracks Ip t false word event did = chain Ip t word event did
run-tracks Ipv6 t false word event did = chain Ipv6 t word event did
run-tracks Osi t false word event did = chain Osi t word event did
run-tracks Mpls t false word event did = chain Mpls t word event did
run-tracks Bacp t false word event did = chain Bacp t word event did

-- ---- a frame

rejected-there : (p : Proto) (t : LinkTables) (word : ℕ) (o : Option Proto) (did : Did) →
    Tracks p t word (of_rejected_there p t word o did.automata) did (does_rejected t o word did)
rejected-there p t word (Some q) did = given-tracks p t word q (Event RejectedBadly) did
rejected-there p t word None did = given-tracks p t word Lcp (Event RejectedWell) did

rejected-tracks : (p : Proto) (t : LinkTables) (word : ℕ) (o : Option ℕ) (did : Did) →
    Tracks p t word (of_rejected p t word o did.automata) did (rejected_if t o word did)
unfolding rejected_if
rejected-tracks p t word None did = nothing p t word did
rejected-tracks p t word (Some number) did = rejected-there p t word (there did.automata (proto_of number)) did

takes-tracks : (p : Proto) (t : LinkTables) (word : ℕ) (q : Proto) (octets : List ℕ) (did : Did) →
    Tracks p t word (of_packet p t word q octets did.automata) did (takes t q octets word did)
unfolding takes does
takes-tracks p t word q octets did =
    let mid = does t q (Packet octets) word did in
    let rejected = rejected_in (told_by t q (Packet octets) word did.automata) in
    behind p t word _ _ did mid (rejected_if t rejected word mid) (given-tracks p t word q (Packet octets) did) (rejected-tracks p t word rejected mid)

-- a Protocol-Reject that is sent
pub reject-auto : (p : Proto) (k : Automata) (id : ℕ) → auto_at (record k { reject_id = id }) p ≡ auto_at k p
reject-auto Lcp k id = refl
reject-auto Ip k id = refl
reject-auto Ipv6 k id = refl
reject-auto Osi k id = refl
reject-auto Mpls k id = refl
reject-auto Bacp k id = refl

rejects-auto : (p : Proto) (t : LinkTables) (word number : ℕ) (info : List ℕ) (k : Automata) →
    auto_at k p ≡ auto_by t p word (rejects_as p number info k) (auto_at k p)
rejects-auto Lcp t word number info k = refl
rejects-auto Ip t word number info k = sym (no-orders t Ip word (auto_at k Ip)).0
rejects-auto Ipv6 t word number info k = sym (no-orders t Ipv6 word (auto_at k Ipv6)).0
rejects-auto Osi t word number info k = sym (no-orders t Osi word (auto_at k Osi)).0
rejects-auto Mpls t word number info k = sym (no-orders t Mpls word (auto_at k Mpls)).0
rejects-auto Bacp t word number info k = sym (no-orders t Bacp word (auto_at k Bacp)).0

rejects-sent : (p : Proto) (t : LinkTables) (word number : ℕ) (info : List ℕ) (k : Automata) →
    packet_if p (Some (reads (proto_number Lcp) (reject_packet k.reject_id (cap_of k.lcp) number info)))
    ≡ sent_by t p word (rejects_as p number info k) (auto_at k p)
rejects-sent Lcp t word number info k = refl
rejects-sent Ip t word number info k = sym (no-orders t Ip word (auto_at k Ip)).1
rejects-sent Ipv6 t word number info k = sym (no-orders t Ipv6 word (auto_at k Ipv6)).1
rejects-sent Osi t word number info k = sym (no-orders t Osi word (auto_at k Osi)).1
rejects-sent Mpls t word number info k = sym (no-orders t Mpls word (auto_at k Mpls)).1
rejects-sent Bacp t word number info k = sym (no-orders t Bacp word (auto_at k Bacp)).1

rejects-tracks : (p : Proto) (t : LinkTables) (word number : ℕ) (info : List ℕ) (did : Did) →
    Tracks p t word (rejects_as p number info did.automata) did (rejects number info did)
unfolding rejects
rejects-tracks p t word number info did =
    let k = did.automata in
    let packet = reject_packet k.reject_id (cap_of k.lcp) number info in
    let push : Entry = Push (enc whole_form (proto_number Lcp) packet) in
    record {
      auto = reject-auto p k ((k.reject_id + 1) % 256) ∙ rejects-auto p t word number info k;
      short = λ short. short-front did.out (push ∷ []) short;
      sent = λ short.
          let few = (short-behind did.out (push ∷ []) short).0 in
          let fits = enc-longer whole_form (proto_number Lcp) packet in
          flat_map-append (link_packet p) did.out (push ∷ [])
          ∙ ap (λ xs. link_packets p did.out ++ xs) (
          append-nil (packet_if p (read_in (enc whole_form (proto_number Lcp) packet)))
          ∙ ap (packet_if p) (control-read whole_form Lcp packet (omega (arith, few, fits)))
          ∙ rejects-sent p t word number info k
          );
    }

payload-tracks : (p : Proto) (t : LinkTables) (word number : ℕ) (info : List ℕ) (did : Did) → Tracks p t word [] did (and_tells did (Payload number info))
payload-tracks p t word number info did =
    let none = nothing p t word did in
    record {
      auto = none.auto;
      short = λ short. short-front did.out (Payload number info ∷ []) short;
      sent = λ short.
          flat_map-append (link_packet p) did.out (Payload number info ∷ [])
          ∙ ap (λ xs. link_packets p did.out ++ xs) (sym (no-orders t p word (auto_at did.automata p)).1);
    }

other-if : (p : Proto) (t : LinkTables) (word number : ℕ) (info : List ℕ) (did : Did) (b : Bool) →
    Tracks p t word (if b then [] else rejects_as p number info did.automata) did (if b then and_tells did (Payload number info) else rejects number info did)
other-if p t word number info did true = payload-tracks p t word number info did
other-if p t word number info did false = rejects-tracks p t word number info did

other-tracks : (p : Proto) (t : LinkTables) (word number : ℕ) (info : List ℕ) (did : Did) →
    Tracks p t word (of_other p t word number info did.automata) did (hears_other t number info did)
unfolding hears_other
other-tracks p t word number info did = other-if p t word number info did (is_payload t did.automata number)

frame-for : (p : Proto) (t : LinkTables) (word : ℕ) (o : Option Proto) (number : ℕ) (info : List ℕ) (did : Did) →
    Tracks p t word (of_frame_for p t word o number info did.automata) did (hears_as t o number info word did)
frame-for p t word (Some q) number info did = takes-tracks p t word q info did
frame-for p t word None number info did = other-tracks p t word number info did

frame-if : (p : Proto) (t : LinkTables) (word : ℕ) (o : Option Proto) (number : ℕ) (info : List ℕ) (did : Did) (b : Bool) →
    Tracks p t word (if b then of_frame_for p t word o number info did.automata else []) did (if b then hears_as t o number info word did else did)
frame-if p t word o number info did true = frame-for p t word o number info did
frame-if p t word o number info did false = nothing p t word did

frame-tracks : (p : Proto) (t : LinkTables) (word number : ℕ) (info : List ℕ) (did : Did) →
    Tracks p t word (of_frame p t word number info did.automata) did (hears t number info word did)
unfolding hears
frame-tracks p t word number info did =
    frame-if p t word (there did.automata (proto_of number)) number info did ((number == proto_number Lcp) || is_opened did.automata.lcp.state)

read-tracks : (p : Proto) (t : LinkTables) (word : ℕ) (o : Option Read) (did : Did) →
    Tracks p t word (of_read p t word o did.automata) did (hears_read t o word did)
read-tracks p t word None did = nothing p t word did
read-tracks p t word (Some read) did = frame-tracks p t word read.protocol read.info did

-- ---- what happens to a link

-- the same of a link
pub record LinkTracks (p : Proto) (word : ℕ) (os : List Order) (k : Link) (fed : Fed) : Type 0 where
  pub tables : fed.link.tables ≡ k.tables
  pub auto : auto_at fed.link.automata p ≡ auto_by k.tables p word os (auto_at k.automata p)
  pub sent : AllShort fed.out → link_packets p fed.out ≡ sent_by k.tables p word os (auto_at k.automata p)

fed_tracks : (p : Proto) (word : ℕ) (os : List Order) (k : Link) (did : Did) (d : DeframerState) (used : ℕ) → Tracks p k.tables word os (begins k.automata) did →
    LinkTracks p word os k (record { link = record { tables = k.tables; automata = did.automata; deframer = d }; out = did.out; used = used })
fed_tracks p word os k did d used tracks = record { tables = refl; auto = tracks.auto; sent = tracks.sent }

pub link-tracks : (p : Proto) (what : Happening) (k : Link) (word : ℕ) → LinkTracks p word (of_link p what k word) k (link_does what k word)
unfolding fed_with
link-tracks p LineUp k word = fed_tracks p word _ k (event_did k Lcp Up word) _ 0 (given-tracks p k.tables word Lcp (Event Up) (begins k.automata))
link-tracks p LineDown k word = fed_tracks p word _ k (event_did k Lcp Down word) k.deframer 0 (given-tracks p k.tables word Lcp (Event Down) (begins k.automata))
link-tracks p (Opens q) k word = fed_tracks p word _ k (event_did k q AdminOpen word) k.deframer 0 (given-tracks p k.tables word q (Event AdminOpen) (begins k.automata))
link-tracks p (Closes q) k word = fed_tracks p word _ k (event_did k q AdminClose word) k.deframer 0 (given-tracks p k.tables word q (Event AdminClose) (begins k.automata))
link-tracks p (TimesOut q) k word = fed_tracks p word _ k (event_did k q Timeout word) k.deframer 0 (given-tracks p k.tables word q (Event Timeout) (begins k.automata))
link-tracks p (Takes octets) k word =
    let step = feed_step (read_by k.automata.lcp k.deframer) octets in
    fed_tracks p word _ k (hears_read k.tables step.left.frame word (begins k.automata)) step.left step.fed.used (read-tracks p k.tables word step.left.frame (begins k.automata))
