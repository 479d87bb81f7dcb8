-- Packets that are under way, and their marks.
use Rattle.std.proofs.Common.{◌≡◌, ℕ, zero, suc, ◌≤◌, List, [], ◌∷◌, ◌++◌, Option, Some, None, refl, arith}
use Rattle.std.specs.List.{AllByRecursion, flat_map}
use Rattle.std.proofs.lemmas.Grind.{flat_map-append}
use Rattle.ppp_packet.specs.ConfigOption.{ConfigOption}
use Rattle.ppp_auto.specs.Packet.{Packet, Request, Ack, Nak, Reject, Other}
use Rattle.ppp_duet.specs.Duet.{Marked, mark_of, without}
use Rattle.ppp_duet.specs.Span.{request_mark, answer_mark}

-- the Identifier of a request, of an Ack, and of the request that an answer answers
abbrev pub request_id : Packet → Option ℕ
request_id (Request id options) = Some id
request_id p = None

abbrev pub ack_id : Packet → Option ℕ
ack_id (Ack id options) = Some id
ack_id p = None

abbrev pub answer_id : Packet → Option ℕ
answer_id (Request id options) = None
answer_id (Other code id octets) = None
answer_id (Ack id options) = Some id
answer_id (Nak id options) = Some id
answer_id (Reject id options) = Some id

abbrev pub options_in : Packet → List ConfigOption
options_in (Request id options) = options
options_in p = []

pub ack_answers : (p : Packet) (id : ℕ) → ack_id p ≡ Some id → answer_id p ≡ Some id
ack_answers p id is = grind arith

pub answer_mark_of : (n mark id : ℕ) (p : Packet) → answer_id p ≡ Some id → mark_of n mark p ≡ mark
answer_mark_of n mark id p is = grind arith

pub all_weaker : {X : Type 0} {P Q : X → Type 0} → ((x : X) → P x → Q x) → (xs : List X) → AllByRecursion P xs → AllByRecursion Q xs
all_weaker step [] h = tt
all_weaker step (x ∷ xs) h = (step x h.0, all_weaker step xs h.1)

pub all_append : {X : Type 0} (P : X → Type 0) (xs ys : List X) → AllByRecursion P xs → AllByRecursion P ys → AllByRecursion P (xs ++ ys)
all_append P [] ys h k = k
all_append P (x ∷ xs) ys h k = (h.0, all_append P xs ys h.1 k)

pub all_front : {X : Type 0} (P : X → Type 0) (xs ys : List X) → AllByRecursion P (xs ++ ys) → AllByRecursion P xs
all_front P [] ys h = tt
all_front P (x ∷ xs) ys h = (h.0, all_front P xs ys h.1)

pub all_back : {X : Type 0} (P : X → Type 0) (xs ys : List X) → AllByRecursion P (xs ++ ys) → AllByRecursion P ys
all_back P [] ys h = h
all_back P (x ∷ xs) ys h = all_back P xs ys h.1

pub all_without : {X : Type 0} (P : X → Type 0) (place : ℕ) (xs : List X) → AllByRecursion P xs → AllByRecursion P (without place xs)
all_without P place [] h = tt
all_without P zero (x ∷ xs) h = h
all_without P (suc zero) (x ∷ xs) h = h.1
all_without P (suc (suc place)) (x ∷ xs) h = (h.0, all_without P (suc place) xs h.1)

-- the mark of a request, and of an answer
abbrev pub by_request : Marked → List ℕ
by_request m = request_mark m.mark m.packet

abbrev pub by_answer : Marked → List ℕ
by_answer m = answer_mark m.mark m.packet

-- the mark, if the packet is of that kind
abbrev pub mark_if : ℕ → Option ℕ → List ℕ
mark_if mark None = []
mark_if mark (Some id) = mark ∷ []

pub request_marked : (mark : ℕ) (p : Packet) → request_mark mark p ≡ mark_if mark (request_id p)
request_marked mark p = grind arith

pub answer_marked : (mark : ℕ) (p : Packet) → answer_mark mark p ≡ mark_if mark (answer_id p)
answer_marked mark p = grind arith

pub mark_all : (P : ℕ → Type 0) (mark : ℕ) (o : Option ℕ) → ((id : ℕ) → o ≡ Some id → P mark) → AllByRecursion P (mark_if mark o)
mark_all P mark None h = tt
mark_all P mark (Some id) h = (h id refl, tt)

-- the marks of a queue's packets
pub marks_all : (f : Marked → List ℕ) (P : ℕ → Type 0) {Q : Marked → Type 0} → ((m : Marked) → Q m → AllByRecursion P (f m)) →
    (ms : List Marked) → AllByRecursion Q ms → AllByRecursion P (flat_map f ms)
marks_all f P each [] h = tt
marks_all f P each (m ∷ ms) h = all_append P (f m) (flat_map f ms) (each m h.0) (marks_all f P each ms h.1)

pub marks_append : (f : Marked → List ℕ) (P : ℕ → Type 0) (ms ns : List Marked) → AllByRecursion P (flat_map f ms) → AllByRecursion P (flat_map f ns) →
    AllByRecursion P (flat_map f (ms ++ ns))
marks_append f P ms ns h k = rw (flat_map-append f ms ns) (all_append P (flat_map f ms) (flat_map f ns) h k)

pub marks_without : (f : Marked → List ℕ) (P : ℕ → Type 0) (place : ℕ) (ms : List Marked) → AllByRecursion P (flat_map f ms) →
    AllByRecursion P (flat_map f (without place ms))
marks_without f P place [] h = tt
marks_without f P zero (m ∷ ms) h = h
marks_without f P (suc zero) (m ∷ ms) h = all_back P (f m) (flat_map f ms) h
marks_without f P (suc (suc place)) (m ∷ ms) h =
    all_append P (f m) (flat_map f (without (suc place) ms)) (all_front P (f m) (flat_map f ms) h) (marks_without f P (suc place) ms (all_back P (f m) (flat_map f ms) h))

-- the numbers never fall, from the lowest up to the highest
abbrev pub Rising : ℕ → ℕ → List ℕ → Type 0
Rising low high [] = low ≤ high
Rising low high (m ∷ ms) = (low ≤ m) × Rising m high ms

pub rising_within : (low high : ℕ) (ms : List ℕ) → Rising low high ms → low ≤ high
rising_within low high [] h = h
rising_within low high (m ∷ ms) h = let below : m ≤ high = rising_within m high ms h.1 in omega (arith, h.0)

pub rising_from : (lower low high : ℕ) (ms : List ℕ) → lower ≤ low → Rising low high ms → Rising lower high ms
rising_from lower low high [] e h = omega arith
rising_from lower low high (m ∷ ms) e h = (omega (arith, h.0), h.1)

-- without the front
pub rising_back : (low high : ℕ) (ms ns : List ℕ) → Rising low high (ms ++ ns) → Rising low high ns
rising_back low high [] ns h = h
rising_back low high (m ∷ ms) ns h = rising_back low high ms ns (rising_from low m high (ms ++ ns) h.0 h.1)

-- with another back
pub rising_front : (low high : ℕ) (ms ns other : List ℕ) → ((from : ℕ) → Rising from high ns → Rising from high other) → Rising low high (ms ++ ns) →
    Rising low high (ms ++ other)
rising_front low high [] ns other step h = step low h
rising_front low high (m ∷ ms) ns other step h = (h.0, rising_front m high ms ns other step h.1)

rising_append : (low mid high : ℕ) (ms ns : List ℕ) → Rising low mid ms → Rising mid high ns → Rising low high (ms ++ ns)
rising_append low mid high [] ns h k = rising_from low mid high ns h k
rising_append low mid high (m ∷ ms) ns h k = (h.0, rising_append m mid high ms ns h.1 k)

rising_same : (n : ℕ) (ms : List ℕ) → AllByRecursion (λ m. m ≡ n) ms → Rising n n ms
rising_same n [] h = omega arith
rising_same n (m ∷ ms) h = (omega (arith, h.0), rising_from m n n ms (omega (arith, h.0)) (rising_same n ms h.1))

pub rising_without : (f : Marked → List ℕ) (place : ℕ) (ms : List Marked) (low high : ℕ) → Rising low high (flat_map f ms) →
    Rising low high (flat_map f (without place ms))
rising_without f place [] low high h = h
rising_without f zero (m ∷ ms) low high h = h
rising_without f (suc zero) (m ∷ ms) low high h = rising_back low high (f m) (flat_map f ms) h
rising_without f (suc (suc place)) (m ∷ ms) low high h =
    rising_front low high (f m) (flat_map f ms) (flat_map f (without (suc place) ms)) (λ from. rising_without f (suc place) ms from high) h

-- the newest go behind the others, and may be newer
pub rising_newest : (f : Marked → List ℕ) (low mid high : ℕ) (ms ns : List Marked) → mid ≤ high → Rising low mid (flat_map f ms) →
    AllByRecursion (λ m. m ≡ high) (flat_map f ns) →
    Rising low high (flat_map f (ms ++ ns))
rising_newest f low mid high ms ns e h k =
    rw (flat_map-append f ms ns) (rising_append low mid high (flat_map f ms) (flat_map f ns) h (rising_from mid high high (flat_map f ns) e (rising_same high (flat_map f ns) k)))
