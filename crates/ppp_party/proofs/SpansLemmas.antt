-- No ordinal falls within a step; and where none has risen by the end of it, a narrow state stays narrow.
use Rattle.std.proofs.Common.{◌≡◌, ℕ, ◌+◌, ◌-◌, ◌≤◌, Bool, true, false, if◌then◌else◌, List, [], ◌∷◌, ◌++◌, take, drop, sym, ap, subst, ◌∙◌, append-nil, take-append-drop, arith}
use Rattle.std.specs.Prelude.{Option, Some, None, ◌==◌, slice_get}
use Rattle.std.specs.List.{AllByRecursion}
use Rattle.std.proofs.lemmas.Grind.{flat_map-append}
use Rattle.ppp_auto.specs.Auto.{Auto}
use Rattle.ppp_auto.specs.EventTable.{asks, cell_of}
use Rattle.ppp_auto.specs.Packet.{Packet, Request, Ack, Nak, Reject, Other}
use Rattle.ppp_auto.specs.Taken.{Taken, kind}
use Rattle.ppp_auto.specs.declared.input.Input.{Input}
use Rattle.ppp_packet.specs.declared.proto.Proto.{Proto}
use Rattle.ppp_duet.specs.Duet as duet
use Rattle.ppp_duet.specs.Duet.{Duet, End, Event, Marked, Setup, at_first, does, does_if, got_after, run, takes}
use Rattle.ppp_duet.specs.Span.{Narrow, answers, least, requests, span_of, widest}
use Rattle.ppp_duet.proofs.Queues.{all_front, by_request}
use Rattle.ppp_duet.proofs.SpanLemmas.{narrow_still}
use Rattle.ppp_party.specs.Events.{AreCaused, DeliversFirst, IsNoReboot, Makes}
use Rattle.ppp_party.specs.Frame.{Frame, only, seen}
use Rattle.ppp_party.specs.Kept.{Kept, duet_of}
use Rattle.ppp_party.specs.Ledger.{Ledger, Ledgers, end_of, last_of, ledger_at, noted, stamped}
use Rattle.ppp_party.specs.Party.{Ends, turned}
use Rattle.ppp_party.specs.Seat.{Seat, SeatAt, seat_duet}
use Rattle.ppp_party.specs.Spans.{NarrowOn, ledger_if, queue_if, sent_on, span_on}
use Rattle.ppp_party.proofs.StepLemmas.{caused-first}

-- ---- an event of the two ends

asked-more : (b : Bool) (n : ℕ) → n ≤ (if b then n + 1 else n)
asked-more true n = omega arith
asked-more false n = omega arith

does-rises : (s : Setup) (e : End) (input : Input) (taken : Taken) (mark word : ℕ) → e.n ≤ (does s e input taken mark word).end.n
unfolding does
does-rises s e input taken mark word = asked-more (asks (cell_of input e.auto.state).actions) e.n

if-rises : (s : Setup) (e : End) (input : Option Input) (taken : Taken) (mark word : ℕ) → e.n ≤ (does_if s e input taken mark word).end.n
if-rises s e None taken mark word = omega arith
if-rises s e (Some input) taken mark word = does-rises s e input taken mark word

takes-rises : (s : Setup) (e : End) (m : Marked) (word : ℕ) → e.n ≤ (takes s e m word).end.n
unfolding takes
takes-rises s e m word =
    let heard : End = record e { got = got_after e m.mark m.packet } in
    let taken = kind s.table e.auto m.packet word in
    if-rises s heard taken.input taken m.mark word

-- no ordinal of the one is above that of the other
record Rises (before after : Duet) : Type 0 where
  of_a : before.a.n ≤ after.a.n
  of_b : before.b.n ≤ after.b.n

delivers-rises : (s : Setup) (d : Duet) (queue : List Marked) (word : ℕ) → Rises d (duet.delivers s d queue word)
delivers-rises s d [] word = record { of_a = omega arith; of_b = omega arith }
delivers-rises s d (m ∷ queue) word = record { of_a = takes-rises s d.a m word; of_b = omega arith }

first-rises : (sa sb : Setup) (d : Duet) (what : duet.Happening) (word : ℕ) → IsNoReboot what → Rises d (at_first sa sb d what word)
unfolding at_first
first-rises sa sb d (duet.Commands event) word none = record { of_a = does-rises sa d.a _ _ 0 word; of_b = omega arith }
first-rises sa sb d (duet.SetsCap cap) word none = record { of_a = omega arith; of_b = omega arith }
first-rises sa sb d (duet.RejectsProtocol id octets) word none = record { of_a = omega arith; of_b = omega arith }
first-rises sa sb d duet.Delivers word none = delivers-rises sa d d.to_a word
first-rises sa sb d (duet.Loses place) word none = record { of_a = omega arith; of_b = omega arith }
first-rises sa sb d duet.Reboots word none = absurd none

side-rises : (side : duet.Side) (sa sb : Setup) (d : Duet) (what : duet.Happening) (word : ℕ) → IsNoReboot what → Rises d (duet.at_side side sa sb d what word)
side-rises duet.A sa sb d what word none = first-rises sa sb d what word none
side-rises duet.B sa sb d what word none =
    let rises = first-rises sb sa (duet.turned d) what word none in
    record { of_a = rises.of_b; of_b = rises.of_a }

-- ---- a list of them

abbrev NoReboots : List Event → Type 0
NoReboots es = AllByRecursion (λ (e : Event). IsNoReboot e.what) es

caused-none : (es : List Event) → AreCaused es → NoReboots es
caused-none [] caused = tt
caused-none (e ∷ es) caused = (caused-first e.what caused.0, caused-none es caused.1)

first-none : (es : List Event) → DeliversFirst es → NoReboots es
first-none [] first = tt
first-none (e ∷ es) first = (first.0, caused-none es first.1)

run-rises : (sa sb : Setup) (es : List Event) (d : Duet) → NoReboots es → Rises d (run sa sb es d)
run-rises sa sb [] d none = record { of_a = omega arith; of_b = omega arith }
run-rises sa sb (e ∷ es) d none =
    let one = side-rises e.side sa sb d e.what e.word none.0 in
    let more = run-rises sa sb es (duet.happens sa sb d e) none.1 in
    record { of_a = omega (arith, one.of_a, more.of_a); of_b = omega (arith, one.of_b, more.of_b) }

run-narrow : (sa sb : Setup) (es : List Event) (d : Duet) → NoReboots es → (run sa sb es d).a.n ≤ d.a.n → (run sa sb es d).b.n ≤ d.b.n → Narrow d → Narrow (run sa sb es d)
run-narrow sa sb [] d none still_a still_b narrow = narrow
run-narrow sa sb (e ∷ es) d none still_a still_b narrow =
    let mid = duet.happens sa sb d e in
    let one = side-rises e.side sa sb d e.what e.word none.0 in
    let more = run-rises sa sb es mid none.1 in
    run-narrow sa sb es mid none.1 (omega (arith, still_a, one.of_a)) (omega (arith, still_b, one.of_b))
    (narrow_still sa sb d e (omega (arith, still_a, more.of_a)) (omega (arith, still_b, more.of_b)) narrow)

-- A step by which neither end's ordinal has risen keeps a state narrow.
pub makes-narrow : (sa sb : Setup) (before after : Duet) → Makes sa sb before after → after.a.n ≤ before.a.n → after.b.n ≤ before.b.n → Narrow before → Narrow after
makes-narrow sa sb before after makes still_a still_b narrow =
    let is = makes.leads in
    subst Narrow is (run-narrow sa sb makes.events before (first-none makes.events makes.first)
    (omega (arith, still_a, ap (λ (d : Duet). d.a.n) is)) (omega (arith, still_b, ap (λ (d : Duet). d.b.n) is)) narrow)

-- ---- spans of a link

-- the spans of a protocol on a link are those of its two ends
pub record AreSpans (m : ℕ) (p : Proto) (e : Ends) (s : Seat) (gs : Ledgers) : Type 0 where
  pub of_own : span_on m p e ≡ span_of (ledger_at s.ledgers p).n (only p s.outgoing) (only p s.incoming)
  pub of_other : span_on m p (turned e) ≡ span_of (ledger_at gs p).n (only p s.incoming) (only p s.outgoing)

pub seat-spans : (m : ℕ) (p : Proto) (e : Ends) (s : Seat) (gs : Ledgers) → SeatAt m e s → slice_get e.other.ledgers (m - 1) ≡ Some gs → AreSpans m p e s gs
seat-spans m p e s gs at other = record {
  of_own = λ i. span_of (ledger_if p (at.ledgers i)).n (only p (queue_if (at.outgoing i))) (only p (queue_if (at.incoming i)));
  of_other = λ i. span_of (ledger_if p (other i)).n (only p (queue_if (at.incoming i))) (only p (queue_if (at.outgoing i)));
}

pub own-sent : (m : ℕ) (p : Proto) (e : Ends) (s : Seat) → SeatAt m e s → sent_on m p e.own ≡ (ledger_at s.ledgers p).n
own-sent m p e s at = ap (λ o. (ledger_if p o).n) at.ledgers

pub narrow-duet : (sa sb : Setup) (p : Proto) (m : ℕ) (e : Ends) (k : Kept sa sb p m e) → NarrowOn m p e → Narrow (duet_of k)
narrow-duet sa sb p m e k narrow =
    let spans = seat-spans m p e k.own k.other.ledgers k.own_seated.at k.other_seated.at.ledgers in
    record {
      of_a = subst (λ n. n ≤ widest) spans.of_own narrow.of_own;
      of_b = subst (λ n. n ≤ widest) spans.of_other narrow.of_other;
    }

pub duet-narrow : (m : ℕ) (p : Proto) (e : Ends) (s : Seat) (a b : Auto) (gs : Ledgers) → AreSpans m p e s gs → Narrow (seat_duet p a s (end_of b (ledger_at gs p))) → NarrowOn m p e
duet-narrow m p e s a b gs spans narrow = record {
  of_own = subst (λ n. n ≤ widest) (sym spans.of_own) narrow.of_a;
  of_other = subst (λ n. n ≤ widest) (sym spans.of_other) narrow.of_b;
}

-- ---- marks near the newest ordinal

-- the requests among these have ordinals that are near that one
abbrev pub AreNear : ℕ → List Marked → Type 0
AreNear n ms = AllByRecursion (λ (mark : ℕ). n ≤ mark + 255) (requests ms)

near-of : (n : ℕ) (ms : List ℕ) → n - least n ms ≤ 255 → AllByRecursion (λ (mark : ℕ). n ≤ mark + 255) ms
near-of n [] narrow = tt
near-of n (m ∷ ms) narrow = let rest : n - least n ms ≤ 255 = omega arith in (omega arith, near-of n ms rest)

of-near : (n now : ℕ) (ms : List ℕ) → now ≤ n → AllByRecursion (λ (mark : ℕ). n ≤ mark + 255) ms → now - least now ms ≤ 255
of-near n now [] still near = omega arith
of-near n now (m ∷ ms) still near = let rest : now - least now ms ≤ 255 = of-near n now ms still near.1 in omega (arith, near.0)

pub span-near : (n : ℕ) (out back : List Marked) → span_of n out back ≤ widest → AreNear n out
span-near n out back narrow = all_front _ (requests out) (answers back) (near-of n (requests out ++ answers back) narrow)

-- where no answer is under way and no newer ordinal was drawn, the span is narrow
pub near-span : (n now : ℕ) (out back : List Marked) → back ≡ [] → now ≤ n → AreNear n out → span_of now out back ≤ widest
near-span n now out back none still near =
    subst (λ ms. span_of now out ms ≤ widest) (sym none)
    (subst (λ ms. now - least now ms ≤ widest) (sym (append-nil (requests out))) (of-near n now (requests out) still near))

pub span-none : (n : ℕ) (out back : List Marked) → n ≡ 0 → span_of n out back ≤ widest
span-none n out back none = omega (arith, none)

noted-rises : (g : Ledger) (p : Packet) → g.n ≤ (noted g p).n
noted-rises g (Request id options) = again (id == last_of g.n)
  where
    again : (b : Bool) → g.n ≤ (if b then g else record g { n = g.n + 1; last = options }).n
    again true = omega arith
    again false = omega arith
noted-rises g (Ack id options) = omega arith
noted-rises g (Nak id options) = omega arith
noted-rises g (Reject id options) = omega arith
noted-rises g (Other code id octets) = omega arith

-- the requests that are sent have newer ordinals than any before
pub stamped-near : (n : ℕ) (g : Ledger) (mark : ℕ) (ps : List Packet) → n ≤ g.n → AreNear n (stamped g mark ps)
stamped-near n g mark [] below = tt
stamped-near n g mark (Request id options ∷ ps) below =
    let now = noted g (Request id options) in
    let rises : g.n ≤ now.n = noted-rises g (Request id options) in
    let above : n ≤ now.n = omega (arith, below, rises) in
    (omega (arith, above), stamped-near n now mark ps above)
stamped-near n g mark (Ack id options ∷ ps) below = stamped-near n (noted g (Ack id options)) mark ps below
stamped-near n g mark (Nak id options ∷ ps) below = stamped-near n g mark ps below
stamped-near n g mark (Reject id options ∷ ps) below = stamped-near n g mark ps below
stamped-near n g mark (Other code id octets ∷ ps) below = stamped-near n g mark ps below

-- among the first of some frames no request stands that isn't among all
pub near-take : (n : ℕ) (p : Proto) (some : ℕ) (frames : List Frame) → AreNear n (only p frames) → AreNear n (only p (take some frames))
near-take n p some frames near =
    let front = only p (take some frames) in
    let back = only p (drop some frames) in
    let all : requests front ++ requests back ≡ requests (only p frames) =
    sym (flat_map-append by_request front back) ∙ ap requests (sym (flat_map-append (seen p) (take some frames) (drop some frames)) ∙ ap (only p) (take-append-drop some frames)) in
    all_front _ (requests front) (requests back) (subst (AllByRecursion (λ (mark : ℕ). n ≤ mark + 255)) (sym all) near)
