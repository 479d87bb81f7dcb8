-- The frames that an event sends, entry by entry, each on its link.
use Rattle.std.proofs.Common.{◌≡◌, ◌≢◌, ℕ, zero, suc, ◌+◌, ◌-◌, ◌≤◌, ◌∙◌, Bool, true, false, if◌then◌else◌, List, [], ◌∷◌, ◌++◌, length, take, set, get_or, refl, sym, ap, append-nil, append_assoc, arith, length-append}
use Rattle.std.specs.Prelude.{◌==◌, Option, Some, slice_get}
use Rattle.std.proofs.lemmas.Bool.{eq-eqb, ne_eqb}
use Rattle.std.proofs.lemmas.Grind.{flat_map-append}
use Rattle.std.proofs.lemmas.List.{take_all}
use Rattle.ppp_auto.specs.Packet.{Packet, Request, Ack, Nak, Reject, Other}
use Rattle.ppp_packet.specs.declared.proto.Proto.{Proto}
use Rattle.ppp_packet.specs.declared.proto.Proto.TheVariants.{Lcp, Ip, Ipv6, Osi, Mpls, Bacp}
use Rattle.ppp_frame.specs.Header.{Read}
use Rattle.ppp_trunk.specs.Orders.{read_in}
use Rattle.ppp_trunk.specs.StationOut.{Entry, Push, Got, Hang, Dial, Asked}
use Rattle.ppp_party.specs.BapSpans.{bap_kind, bap_kind_by}
use Rattle.ppp_party.specs.Counted.{AllCounted, IsCounted}
use Rattle.ppp_party.specs.Frame.{Carried, Frame, carried, carried_by, mark_by, marked_frames, noted_by, noted_frames, noted_if, packet_for}
use Rattle.ppp_party.specs.Ledger.{Ledger, Ledgers, ledger_at, ledger_begun, ledgers_begun, ledgers_by, noted}
use Rattle.ppp_party.specs.Party.{AreRoomy, each_noted, each_queued, push_on, pushes_on, queued, room}
use Rattle.ppp_party.proofs.ListLemmas.{lent-at, take-next}

-- ---- one behind the other

pub noted-append : (gs : Ledgers) (xs ys : List (List ℕ)) → noted_frames gs (xs ++ ys) ≡ noted_frames (noted_frames gs xs) ys
noted-append gs [] ys = refl
noted-append gs (x ∷ xs) ys = noted-append (noted_by gs (carried x)) xs ys

pub marked-append : (gs : Ledgers) (mark : ℕ) (xs ys : List (List ℕ)) → marked_frames gs mark (xs ++ ys) ≡ marked_frames gs mark xs ++ marked_frames (noted_frames gs xs) mark ys
marked-append gs mark [] ys = refl
marked-append gs mark (x ∷ xs) ys = ap (λ fs. record { mark = mark_by gs mark (carried x); octets = x } ∷ fs) (marked-append (noted_by gs (carried x)) mark xs ys)

take-more : {X : Type 0} (n : ℕ) (xs ys : List X) → take n (take n xs ++ ys) ≡ take n (xs ++ ys)
take-more zero xs ys = refl
take-more (suc n) [] ys = refl
take-more (suc n) (x ∷ xs) ys = ap (λ rest. x ∷ rest) (take-more n xs ys)

pub queued-queued : (queue xs ys : List Frame) → queued (queued queue xs) ys ≡ queued queue (xs ++ ys)
queued-queued queue xs ys = take-more room (queue ++ xs) ys ∙ ap (take room) (append_assoc queue xs ys)

pub none-queued : (queue : List Frame) → length queue ≤ room → queued queue [] ≡ queue
none-queued queue few = ap (take room) (append-nil queue) ∙ take_all room queue few

-- ---- entry by entry

noted-append-each : (m : ℕ) (xs ys : List Entry) (gss : List Ledgers) → each_noted m (xs ++ ys) gss ≡ each_noted m ys (each_noted m xs gss)
noted-append-each m xs ys [] = refl
noted-append-each m xs ys (gs ∷ more) =
    let one = ap (noted_frames gs) (flat_map-append (push_on m) xs ys) ∙ noted-append gs (pushes_on m xs) (pushes_on m ys) in
    (λ i. one i ∷ noted-append-each (m + 1) xs ys more i)

queued-append-each : (m mark : ℕ) (xs ys : List Entry) (gss : List Ledgers) (queues : List (List Frame)) →
    each_queued m mark (xs ++ ys) gss queues ≡ each_queued m mark ys (each_noted m xs gss) (each_queued m mark xs gss queues)
queued-append-each m mark xs ys [] queues = refl
queued-append-each m mark xs ys (gs ∷ more) [] = refl
queued-append-each m mark xs ys (gs ∷ more) (queue ∷ queues) =
    let first = pushes_on m xs in
    let rest = pushes_on m ys in
    let one = ap (λ frames. queued queue (marked_frames gs mark frames)) (flat_map-append (push_on m) xs ys)
    ∙ ap (queued queue) (marked-append gs mark first rest)
    ∙ sym (queued-queued queue (marked_frames gs mark first) (marked_frames (noted_frames gs first) mark rest)) in
    (λ i. one i ∷ queued-append-each (m + 1) mark xs ys more queues i)

-- ---- on which link

-- nothing goes out on these links
noted-none : (m : ℕ) (es : List Entry) (gss : List Ledgers) → ((j : ℕ) → m ≤ j → pushes_on j es ≡ []) → each_noted m es gss ≡ gss
noted-none m es [] none = refl
noted-none m es (gs ∷ more) none =
    (λ i. noted_frames gs (none m (omega arith) i) ∷ noted-none (m + 1) es more (λ j low. none j (omega (arith, low))) i)

queued-none : (m mark : ℕ) (es : List Entry) (gss : List Ledgers) (queues : List (List Frame)) → ((j : ℕ) → m ≤ j → pushes_on j es ≡ []) → AreRoomy queues → each_queued m mark es gss queues ≡ queues
queued-none m mark es [] queues none few = refl
queued-none m mark es (gs ∷ more) [] none few = refl
queued-none m mark es (gs ∷ more) (queue ∷ queues) none few =
    let stays = ap (λ frames. queued queue (marked_frames gs mark frames)) (none m (omega arith)) ∙ none-queued queue few.0 in
    (λ i. stays i ∷ queued-none (m + 1) mark es more queues (λ j low. none j (omega (arith, low))) few.1 i)

-- what goes out goes out on one link
noted-set : (m i : ℕ) (es : List Entry) (gss : List Ledgers) (g : Ledgers) → slice_get gss i ≡ Some g → ((j : ℕ) → j ≢ m + i → pushes_on j es ≡ []) →
    each_noted m es gss ≡ set gss i (noted_frames g (pushes_on (m + i) es))
noted-set m i es [] g is none = absurd (cc)
noted-set m zero es (x ∷ more) g is none =
    let same : x ≡ g = cc in
    let at : m ≡ m + 0 = omega arith in
    (λ i. noted_frames (same i) (pushes_on (at i) es) ∷ noted-none (m + 1) es more (λ j low. none j (λ here. absurd (omega (arith, low, here)))) i)
noted-set m (suc i) es (x ∷ more) g is none =
    let at : m + 1 + i ≡ m + suc i = omega arith in
    let tail = noted-set (m + 1) i es more g is (λ j other. none j (λ here. other (here ∙ sym at))) ∙ ap (λ n. set more i (noted_frames g (pushes_on n es))) at in
    (λ k. noted_frames x (none m (λ here. absurd (omega (arith, here))) k) ∷ tail k)

queued-set : (m i mark : ℕ) (es : List Entry) (gss : List Ledgers) (queues : List (List Frame)) (g : Ledgers) (queue : List Frame) → slice_get gss i ≡ Some g → slice_get queues i ≡ Some queue →
    ((j : ℕ) → j ≢ m + i → pushes_on j es ≡ []) → AreRoomy queues →
    each_queued m mark es gss queues ≡ set queues i (queued queue (marked_frames g mark (pushes_on (m + i) es)))
queued-set m i mark es [] queues g queue is waits none few = absurd (cc)
queued-set m i mark es (x ∷ more) [] g queue is waits none few = absurd (cc)
queued-set m zero mark es (x ∷ more) (y ∷ queues) g queue is waits none few =
    let same : x ≡ g = cc in
    let one : y ≡ queue = cc in
    let at : m ≡ m + 0 = omega arith in
    let tail = queued-none (m + 1) mark es more queues (λ j low. none j (λ here. absurd (omega (arith, low, here)))) few.1 in
    (λ i. queued (one i) (marked_frames (same i) mark (pushes_on (at i) es)) ∷ tail i)
queued-set m (suc i) mark es (x ∷ more) (y ∷ queues) g queue is waits none few =
    let at : m + 1 + i ≡ m + suc i = omega arith in
    let stays = ap (λ frames. queued y (marked_frames x mark frames)) (none m (λ here. absurd (omega (arith, here)))) ∙ none-queued y few.0 in
    let tail = queued-set (m + 1) i mark es more queues g queue is waits (λ j other. none j (λ here. other (here ∙ sym at))) few.1
    ∙ ap (λ n. set queues i (queued queue (marked_frames g mark (pushes_on n es)))) at in
    (λ k. stays k ∷ tail k)

-- ---- one entry

own-push : (l : ℕ) (octets : List ℕ) → pushes_on l (Push l octets ∷ []) ≡ octets ∷ []
own-push l octets = rw (eq-eqb l l refl) refl

other-push : (l j : ℕ) (octets : List ℕ) → j ≢ l → pushes_on j (Push l octets ∷ []) ≡ []
other-push l j octets other = rw (ne_eqb l j (λ same. other (sym same))) refl

-- a frame goes out on its link
module _ (l at mark : ℕ) (octets : List ℕ) (gss : List Ledgers) (queues : List (List Frame)) (g now : Ledgers) (queue longer : List Frame)
    (is : at ≡ l - 1) (low : 1 ≤ l) (high : l ≤ length gss) (lends : g ≡ get_or gss at g) where
  number : 1 + (l - 1) ≡ l
  number = omega (arith, low)

  nowhere : (j : ℕ) → j ≢ 1 + (l - 1) → pushes_on j (Push l octets ∷ []) ≡ []
  nowhere j other = other-push l j octets (λ same. other (same ∙ sym number))

  frames : pushes_on (1 + (l - 1)) (Push l octets ∷ []) ≡ octets ∷ []
  frames = ap (λ n. pushes_on n (Push l octets ∷ [])) number ∙ own-push l octets

  pub noted-push : now ≡ noted_frames g (octets ∷ []) → set gss at now ≡ each_noted 1 (Push l octets ∷ []) gss
  noted-push now_is =
      (λ i. set gss (is i) ((now_is ∙ ap (noted_frames g) (sym frames)) i))
      ∙ sym (noted-set 1 (l - 1) (Push l octets ∷ []) gss g (lent-at gss at l g is low high lends) nowhere)

  pub queued-push : length queues ≡ length gss → AreRoomy queues → queue ≡ get_or queues at queue → longer ≡ queued queue (marked_frames g mark (octets ∷ [])) →
      set queues at longer ≡ each_queued 1 mark (Push l octets ∷ []) gss queues
  queued-push alike few waits longer_is =
      (λ i. set queues (is i) ((longer_is ∙ ap (λ fs. queued queue (marked_frames g mark fs)) (sym frames)) i))
      ∙ sym (queued-set 1 (l - 1) mark (Push l octets ∷ []) gss queues g queue (lent-at gss at l g is low high lends) (lent-at queues at l queue is low (omega (arith, high, alike)) waits) nowhere few)

-- an entry that is no frame
abbrev pub IsNoPush : Entry → Type 0
IsNoPush (Push link octets) = ⊥
IsNoPush (Got class protocol octets) = Unit {0}
IsNoPush (Hang link) = Unit {0}
IsNoPush (Dial link) = Unit {0}
IsNoPush (Asked answer) = Unit {0}

pub no-push : (e : Entry) (j : ℕ) → IsNoPush e → pushes_on j (e ∷ []) ≡ []
no-push (Push link octets) j none = absurd none
no-push (Got class protocol octets) j none = refl
no-push (Hang link) j none = refl
no-push (Dial link) j none = refl
no-push (Asked answer) j none = refl

pub noted-nothing : (e : Entry) (gss : List Ledgers) → IsNoPush e → gss ≡ each_noted 1 (e ∷ []) gss
noted-nothing e gss none = sym (noted-none 1 (e ∷ []) gss (λ j low. no-push e j none))

pub queued-nothing : (mark : ℕ) (e : Entry) (gss : List Ledgers) (queues : List (List Frame)) → IsNoPush e → AreRoomy queues → queues ≡ each_queued 1 mark (e ∷ []) gss queues
queued-nothing mark e gss queues none few = sym (queued-none 1 mark (e ∷ []) gss queues (λ j low. no-push e j none) few)

-- ---- all entries

-- what the first entries made of the ledgers and queues
pub record PostedSo (mark i : ℕ) (all : List Entry) (first now : List Ledgers) (before queues : List (List Frame)) : Type 0 where
  pub notes : now ≡ each_noted 1 (take i all) first
  pub posts : queues ≡ each_queued 1 mark (take i all) first before

pub posted-none : (mark : ℕ) (all : List Entry) (first : List Ledgers) (before : List (List Frame)) → AreRoomy before → PostedSo mark 0 all first first before before
posted-none mark all first before few = record {
  notes = sym (noted-none 1 [] first (λ j low. refl));
  posts = sym (queued-none 1 mark [] first before (λ j low. refl) few);
}

pub posted-next : (mark i : ℕ) (all : List Entry) (first now new : List Ledgers) (before queues longer : List (List Frame)) (e : Entry) → slice_get all i ≡ Some e →
    new ≡ each_noted 1 (e ∷ []) now → longer ≡ each_queued 1 mark (e ∷ []) now queues → PostedSo mark i all first now before queues → PostedSo mark (suc i) all first new before longer
posted-next mark i all first now new before queues longer e is notes posts so =
    let front : take (suc i) all ≡ take i all ++ e ∷ [] = take-next all i e is in
    record {
      notes = notes ∙ ap (each_noted 1 (e ∷ [])) so.notes ∙ sym (ap (λ es. each_noted 1 es first) front ∙ noted-append-each 1 (take i all) (e ∷ []) first);
      posts = posts
          ∙ (λ j. each_queued 1 mark (e ∷ []) (so.notes j) (so.posts j))
          ∙ sym (ap (λ es. each_queued 1 mark es first before) front ∙ queued-append-each 1 mark (take i all) (e ∷ []) first before);
    }

pub record AllPosted (mark : ℕ) (all : List Entry) (first now : List Ledgers) (before queues : List (List Frame)) : Type 0 where
  pub notes : now ≡ each_noted 1 all first
  pub posts : queues ≡ each_queued 1 mark all first before

pub posted-all : (mark i : ℕ) (all : List Entry) (first now : List Ledgers) (before queues : List (List Frame)) → length all ≤ i → PostedSo mark i all first now before queues → AllPosted mark all first now before queues
posted-all mark i all first now before queues past so =
    let whole : take i all ≡ all = take_all i all past in
    record { notes = so.notes ∙ ap (λ es. each_noted 1 es first) whole; posts = so.posts ∙ ap (λ es. each_queued 1 mark es first before) whole }

-- ---- how much is counted

noted-few : (g : Ledger) (packet : Packet) → (noted g packet).n ≤ g.n + 1
noted-few g (Request id options) = grind arith
noted-few g (Ack id options) = omega arith
noted-few g (Nak id options) = omega arith
noted-few g (Reject id options) = omega arith
noted-few g (Other code id octets) = omega arith

if-few : (g : Ledger) (ps : List Packet) → (noted_if g ps).n ≤ g.n + 1
if-few g [] = omega arith
if-few g (packet ∷ more) = noted-few g packet

pub of-ledgers : (f : Proto → Ledger) (p : Proto) → ledger_at (ledgers_by f) p ≡ f p
of-ledgers f Lcp = refl
of-ledgers f Ip = refl
of-ledgers f Ipv6 = refl
of-ledgers f Osi = refl
of-ledgers f Mpls = refl
of-ledgers f Bacp = refl

by-few : (gs : Ledgers) (c : Option Carried) (p : Proto) → (ledger_at (noted_by gs c) p).n ≤ (ledger_at gs p).n + 1
by-few gs c p = rw (of-ledgers (λ p. noted_if (ledger_at gs p) (packet_for p c)) p) (if-few (ledger_at gs p) (packet_for p c))

frames-few : (gs : Ledgers) (frames : List (List ℕ)) (p : Proto) → (ledger_at (noted_frames gs frames) p).n ≤ (ledger_at gs p).n + length frames
frames-few gs [] p = omega arith
frames-few gs (x ∷ xs) p =
    let more = frames-few (noted_by gs (carried x)) xs p in
    let one = by-few gs (carried x) p in
    omega (arith, more, one)

if-length : (b : Bool) (octets : List ℕ) → length (if b then octets ∷ [] else []) ≤ 1
if-length true octets = omega arith
if-length false octets = omega arith

push-length : (l : ℕ) (e : Entry) → length (push_on l e) ≤ 1
push-length l (Push link octets) = if-length (link == l) octets
push-length l (Got class protocol octets) = omega arith
push-length l (Hang link) = omega arith
push-length l (Dial link) = omega arith
push-length l (Asked answer) = omega arith

pushes-length : (l : ℕ) (es : List Entry) → length (pushes_on l es) ≤ length es
pushes-length l [] = omega arith
pushes-length l (e ∷ es) = omega (arith, push-length l e, pushes-length l es, length-append (push_on l e) (pushes_on l es))

pub counted-more : (most more : ℕ) (gs : Ledgers) → most ≤ more → IsCounted most gs → IsCounted more gs
counted-more most more gs less all p = let one = all p in omega (arith, one)

counted-pushes : (most few m : ℕ) (gs : Ledgers) (es : List Entry) → length es ≤ few → IsCounted most gs → IsCounted (most + few) (noted_frames gs (pushes_on m es))
counted-pushes most few m gs es less all p =
    let one = all p in
    let grown = frames-few gs (pushes_on m es) p in
    let short = pushes-length m es in
    omega (arith, one, grown, short)

pub all-more : (most more : ℕ) (gss : List Ledgers) → most ≤ more → AllCounted most gss → AllCounted more gss
all-more most more [] less all = tt
all-more most more (gs ∷ gss) less all = (counted-more most more gs less all.0, all-more most more gss less all.1)

pub noted-counted : (most few m : ℕ) (es : List Entry) (gss : List Ledgers) → length es ≤ few → AllCounted most gss → AllCounted (most + few) (each_noted m es gss)
noted-counted most few m es [] less all = tt
noted-counted most few m es (gs ∷ gss) less all = (counted-pushes most few m gs es less all.0, noted-counted most few (m + 1) es gss less all.1)

-- what a frame carries, by what a reader lends of it
pub bap-is : (octets : List ℕ) (o : Option Read) → o ≡ read_in octets → bap_kind_by o ≡ bap_kind octets
unfolding bap_kind
bap-is octets o is = ap bap_kind_by is

pub carried-is : (octets : List ℕ) (o : Option Read) → o ≡ read_in octets → carried_by o ≡ carried octets
unfolding carried
carried-is octets o is = ap carried_by is

-- ---- ledgers that begin, and one frame more

pub counted-begun : IsCounted 0 ledgers_begun
counted-begun p = let e = of-ledgers (λ p. ledger_begun) p in omega (arith, ap (λ (g : Ledger). g.n) e)

pub counted-frame : (most : ℕ) (gs : Ledgers) (octets : List ℕ) → IsCounted most gs → IsCounted (most + 1) (noted_frames gs (octets ∷ []))
counted-frame most gs octets all p =
    let one = all p in
    let few = by-few gs (carried octets) p in
    omega (arith, one, few)
