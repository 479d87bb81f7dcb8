-- A span gets larger only where an ordinal rises.
use Rattle.std.proofs.Common.{◌≡◌, ℕ, ◌+◌, ◌-◌, ◌≤◌, min, List, [], ◌∷◌, ◌++◌, take, Option, Some, None, refl, arith}
use Rattle.std.specs.List.{AllByRecursion}
use Rattle.ppp_auto.specs.declared.input.Input.{Input}
use Rattle.ppp_auto.specs.Taken.{Taken, taken_as, input_of, kind}
use Rattle.ppp_auto.specs.Automaton.{does_row, after}
use Rattle.ppp_auto.specs.EventTable.{cell_of}
use Rattle.ppp_auto.specs.Packet.{Packet, Other}
use Rattle.ppp_packet.specs.declared.code.Code.TheVariants.{ProtocolReject}
use Rattle.ppp_packet.specs.Code.{code_number}
use Rattle.ppp_duet.specs.Duet.{End, Marked, Duet, Setup, Side, A, B, Happening, Commands, SetsCap, RejectsProtocol, Delivers, Loses, Reboots, Event, does, does_if, start, takes, got_after, without, turned, delivers, at_first, at_side, happens}
use Rattle.ppp_duet.specs.Span.{request_mark, answer_mark, requests, answers, least, span_of, widest, Narrow, StaysNarrow}
use Rattle.ppp_duet.proofs.Packets.{RepliesIf, all_sent, sent_requests, sent_answers}
use Rattle.ppp_duet.proofs.Queues.{answer_id, all_weaker, all_append, all_front, all_back, marks_append, marks_without, request_marked, answer_marked, Rising, rising_within, by_request, by_answer}
use Rattle.ppp_duet.proofs.TakenLemmas.{replies}

-- an ordinal is near the newest one
abbrev IsNear : ℕ → ℕ → Type 0
IsNear n mark = n ≤ mark + 255

near_of : (n : ℕ) (ms : List ℕ) → n - least n ms ≤ 255 → AllByRecursion (IsNear n) ms
near_of n [] h = tt
near_of n (m ∷ ms) h = let rest : n - least n ms ≤ 255 = omega arith in (omega arith, near_of n ms rest)

of_near : (n : ℕ) (ms : List ℕ) → AllByRecursion (IsNear n) ms → n - least n ms ≤ 255
of_near n [] h = omega arith
of_near n (m ∷ ms) h = let rest : n - least n ms ≤ 255 = of_near n ms h.1 in omega (arith, h.0)

-- the span of an end is narrow, mark by mark
record Near (n : ℕ) (out back : List Marked) : Type 0 where
  asked : AllByRecursion (IsNear n) (requests out)
  answered : AllByRecursion (IsNear n) (answers back)

near_span : (n : ℕ) (out back : List Marked) → span_of n out back ≤ widest → Near n out back
near_span n out back h =
    let near = near_of n (requests out ++ answers back) h in
    record { asked = all_front (IsNear n) (requests out) (answers back) near; answered = all_back (IsNear n) (requests out) (answers back) near }

span_near : (n : ℕ) (out back : List Marked) → Near n out back → span_of n out back ≤ widest
span_near n out back s = of_near n (requests out ++ answers back) (all_append (IsNear n) (requests out) (answers back) s.asked s.answered)

-- where the span is narrow, what the answer at the front answers is near
pub answer_near : (n : ℕ) (out : List Marked) (mark : ℕ) (p : Packet) (id : ℕ) (rest : List Marked) → answer_id p ≡ Some id →
    span_of n out (record { mark = mark; packet = p } ∷ rest) ≤ widest → n ≤ mark + 255
answer_near n out mark p id rest is h =
    let near = near_span n out (record { mark = mark; packet = p } ∷ rest) h in
    (rw (answer_marked mark p, is) at near.answered).0

-- What is sent: requests with the newest ordinal, and answers to requests that are near the other end's newest.
record SentNear (n other : ℕ) (sent : List Marked) : Type 0 where
  asked : AllByRecursion (λ mark. mark ≡ n) (requests sent)
  answered : AllByRecursion (IsNear other) (answers sent)

-- a row's packets
does_near : (s : Setup) (e : End) (input : Input) (taken : Taken) (mark word other : ℕ) → RepliesIf (λ _. IsNear other mark) taken.answer →
    SentNear (does s e input taken mark word).end.n other (does s e input taken mark word).sent
unfolding does does_row
does_near s e input taken mark word other h =
    let did = does s e input taken mark word in
    let row = cell_of input e.auto.state in
    let sent = all_sent did.end.n mark e.auto (after s.table e.auto input row taken word) taken (λ m _. IsNear other m) row.actions (λ _. h) in
    record {
      asked = sent_requests did.end.n did.end.auto (λ m _. IsNear other m) did.sent sent;
      answered = sent_answers did.end.n did.end.auto (λ m _. IsNear other m) (IsNear other) (λ m _ k. k) did.sent sent;
    }

if_near : (s : Setup) (e : End) (input : Option Input) (taken : Taken) (mark word other : ℕ) → RepliesIf (λ _. IsNear other mark) taken.answer →
    SentNear (does_if s e input taken mark word).end.n other (does_if s e input taken mark word).sent
if_near s e None taken mark word other h = record { asked = tt; answered = tt }
if_near s e (Some input) taken mark word other h = does_near s e input taken mark word other h

takes_near : (s : Setup) (e : End) (m : Marked) (word other : ℕ) → AllByRecursion (IsNear other) (request_mark m.mark m.packet) →
    SentNear (takes s e m word).end.n other (takes s e m word).sent
unfolding takes
takes_near s e m word other h =
    let taken = kind s.table e.auto m.packet word in
    if_near s (record e { got = got_after e m.mark m.packet }) taken.input taken m.mark word other
    (replies s.table e.auto m.packet word (λ _. IsNear other m.mark) (λ id is. (rw (request_marked m.mark m.packet, is) at h).0))

-- the first end became `x` and sent packets, and `rest` is left of the queue to it
narrow_after : (d : Duet) (x : End) (rest sent : List Marked) → Near d.a.n d.to_b rest → Near d.b.n rest d.to_b → SentNear x.n d.b.n sent →
    StaysNarrow d (record { a = x; b = d.b; to_a = rest; to_b = d.to_b ++ sent })
narrow_after d x rest sent mine theirs near = record {
  of_a = λ still. span_near x.n (d.to_b ++ sent) rest (record {
    asked = marks_append by_request (IsNear x.n) d.to_b sent (all_weaker (λ (m : ℕ) (k : IsNear d.a.n m). omega arith) (requests d.to_b) mine.asked)
        (all_weaker (λ (m : ℕ) (k : m ≡ x.n). omega arith) (requests sent) near.asked);
    answered = all_weaker (λ (m : ℕ) (k : IsNear d.a.n m). omega arith) (answers rest) mine.answered;
  });
  of_b = λ still. span_near d.b.n rest (d.to_b ++ sent) (record {
    asked = theirs.asked;
    answered = marks_append by_answer (IsNear d.b.n) d.to_b sent theirs.answered near.answered;
  });
}

-- the front of the queue to the first end is taken off
near_rest : (n : ℕ) (out : List Marked) (m : Marked) (rest : List Marked) → Near n out (m ∷ rest) → Near n out rest
near_rest n out m rest near = record { asked = near.asked; answered = all_back (IsNear n) (answer_mark m.mark m.packet) (answers rest) near.answered }

narrow_delivered : (s : Setup) (a b : End) (to_a to_b : List Marked) (word : ℕ) → let d : Duet = record { a = a; b = b; to_a = to_a; to_b = to_b } in
    Narrow d → StaysNarrow d (delivers s d to_a word)
narrow_delivered s a b [] to_b word h = record { of_a = λ still. h.of_a; of_b = λ still. h.of_b }
narrow_delivered s a b (m ∷ rest) to_b word h =
    let mine = near_span a.n to_b (m ∷ rest) h.of_a in
    let theirs = near_span b.n (m ∷ rest) to_b h.of_b in
    let stays = narrow_after (record { a = a; b = b; to_a = m ∷ rest; to_b = to_b }) (takes s a m word).end rest (takes s a m word).sent (near_rest a.n to_b m rest mine)
    (record { asked = all_back (IsNear b.n) (request_mark m.mark m.packet) (requests rest) theirs.asked; answered = theirs.answered })
    (takes_near s a m word b.n (all_front (IsNear b.n) (request_mark m.mark m.packet) (requests rest) theirs.asked)) in
    record { of_a = stays.of_a; of_b = stays.of_b }

-- a loss widens no span
loss_first : (sa sb : Setup) (d : Duet) (place word : ℕ) → let d' = at_first sa sb d (Loses place) word in
    (span_of d.a.n d.to_b d.to_a ≤ widest → span_of d'.a.n d'.to_b d'.to_a ≤ widest) × (span_of d.b.n d.to_a d.to_b ≤ widest → span_of d'.b.n d'.to_a d'.to_b ≤ widest)
unfolding at_first
loss_first sa sb d place word = (
  λ h. let mine = near_span d.a.n d.to_b d.to_a h in
      span_near d.a.n d.to_b (without place d.to_a) (record { asked = mine.asked; answered = marks_without by_answer (IsNear d.a.n) place d.to_a mine.answered }),
  λ h. let theirs = near_span d.b.n d.to_a d.to_b h in
      span_near d.b.n (without place d.to_a) d.to_b (record { asked = marks_without by_request (IsNear d.b.n) place d.to_a theirs.asked; answered = theirs.answered }),
)

narrow_first : (sa sb : Setup) (d : Duet) (what : Happening) (word : ℕ) → Narrow d → StaysNarrow d (at_first sa sb d what word)
unfolding at_first
narrow_first sa sb d (Commands e) word h =
    let input = input_of d.a.auto e in
    let did = does sa d.a input (taken_as d.a.auto (Some input) 0) 0 word in
    narrow_after d did.end d.to_a did.sent (near_span d.a.n d.to_b d.to_a h.of_a) (near_span d.b.n d.to_a d.to_b h.of_b)
    (does_near sa d.a input (taken_as d.a.auto (Some input) 0) 0 word d.b.n (λ p is. absurd (cc)))
narrow_first sa sb d (SetsCap cap) word h = record { of_a = λ still. h.of_a; of_b = λ still. h.of_b }
narrow_first sa sb d (RejectsProtocol id octets) word h =
    narrow_after d d.a d.to_a (record { mark = 0; packet = Other (code_number ProtocolReject) id octets } ∷ []) (near_span d.a.n d.to_b d.to_a h.of_a) (near_span d.b.n d.to_a d.to_b h.of_b)
    (record { asked = tt; answered = tt })
narrow_first sa sb d Delivers word h = narrow_delivered sa d.a d.b d.to_a d.to_b word h
narrow_first sa sb d (Loses place) word h =
    let losing = loss_first sa sb d place word in
    record { of_a = λ still. losing.0 h.of_a; of_b = λ still. losing.1 h.of_b }
narrow_first sa sb d Reboots word h = record { of_a = λ still. omega arith; of_b = λ still. omega arith }

narrow_at : (side : Side) (sa sb : Setup) (d : Duet) (what : Happening) (word : ℕ) → Narrow d → StaysNarrow d (at_side side sa sb d what word)
narrow_at A sa sb d what word h = narrow_first sa sb d what word h
narrow_at B sa sb d what word h =
    let k = narrow_first sb sa (turned d) what word (record { of_a = h.of_b; of_b = h.of_a }) in
    record { of_a = k.of_b; of_b = k.of_a }

-- An event keeps the span of each end narrow whose ordinal doesn't rise, whatever the tables.
pub stays_narrow : (sa sb : Setup) (d : Duet) (e : Event) → Narrow d → StaysNarrow d (happens sa sb d e)
stays_narrow sa sb d e h = narrow_at e.side sa sb d e.what e.word h

-- An event in which no ordinal rises keeps a state narrow.
pub narrow_still : (sa sb : Setup) (d : Duet) (e : Event) → (happens sa sb d e).a.n ≤ d.a.n → (happens sa sb d e).b.n ≤ d.b.n → Narrow d →
    Narrow (happens sa sb d e)
narrow_still sa sb d e still_a still_b h = let stays = stays_narrow sa sb d e h in record { of_a = stays.of_a still_a; of_b = stays.of_b still_b }

pub loss_narrows : (sa sb : Setup) (side : Side) (d : Duet) (place word : ℕ) → let d' = at_side side sa sb d (Loses place) word in
    (span_of d.a.n d.to_b d.to_a ≤ widest → span_of d'.a.n d'.to_b d'.to_a ≤ widest) × (span_of d.b.n d.to_a d.to_b ≤ widest → span_of d'.b.n d'.to_a d'.to_b ≤ widest)
loss_narrows sa sb A d place word = loss_first sa sb d place word
loss_narrows sa sb B d place word = let k = loss_first sb sa (turned d) place word in (k.1, k.0)

pub narrow_start : (sa sb : Setup) → Narrow (start sa sb)
narrow_start sa sb = record { of_a = omega arith; of_b = omega arith }

-- The least of marks that never fall is reached at the first.
least_from : (low high n : ℕ) (ms : List ℕ) → high ≤ n → Rising low high ms → low ≤ least n ms
least_from low high n [] e h = omega arith
least_from low high n (m ∷ ms) e h = let rest : m ≤ least n ms = least_from m high n ms e h.1 in omega (arith, h.0)

least_first : (low high n : ℕ) (ms : List ℕ) → high ≤ n → Rising low high ms → least n ms ≡ least n (take 1 ms)
least_first low high n [] e h = refl
least_first low high n (m ∷ ms) e h =
    let rest : m ≤ least n ms = least_from m high n ms e h.1 in
    let below : m ≤ high = rising_within m high ms h.1 in
    omega arith

least_most : (n : ℕ) (ms : List ℕ) → least n ms ≡ min n (least n ms)
least_most n [] = omega arith
least_most n (m ∷ ms) = let rest : least n ms ≡ min n (least n ms) = least_most n ms in omega arith

least_append : (n : ℕ) (ms ns : List ℕ) → least n (ms ++ ns) ≡ min (least n ms) (least n ns)
least_append n [] ns = least_most n ns
least_append n (m ∷ ms) ns = rw (least_append n ms ns) (omega arith)

pub oldest_first : (low mid n : ℕ) (ms ns : List ℕ) → mid ≤ n → Rising low n ms → Rising 0 mid ns → least n (ms ++ ns) ≡ least n (take 1 ms ++ take 1 ns)
oldest_first low mid n ms ns e h k =
    rw (least_append n ms ns, least_append n (take 1 ms) (take 1 ns), least_first low n n ms (omega arith) h, least_first 0 mid n ns e k) refl
