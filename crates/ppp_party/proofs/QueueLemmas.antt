-- Facts on queues of frames.
use Rattle.std.proofs.Common.{◌≡◌, ℕ, zero, suc, ◌-◌, ◌<◌, ◌≤◌, List, [], ◌∷◌, ◌++◌, length, drop, refl, sym, ap, ◌∙◌, arith, length-append}
use Rattle.std.specs.Prelude.{Some, min, slice_get}
use Rattle.std.specs.List.{flat_map, remove}
use Rattle.std.proofs.lemmas.Grind.{flat_map-append}
use Rattle.std.proofs.lemmas.List.{take_all, take_at}
use Rattle.ppp_duet.specs.Duet.{Marked, without}
use Rattle.ppp_duet.specs.Span.{answer_mark, answers, least, request_mark, requests}
use Rattle.ppp_packet.specs.declared.proto.Proto.{Proto}
use Rattle.ppp_party.specs.Frame.{Frame, only, seen}
use Rattle.ppp_party.specs.Party.{queued, room}
use Rattle.ppp_party.proofs.ListLemmas.{drop-get}

-- a full queue, and one with room
pub full : (queue : List Frame) (f : Frame) → length queue ≤ room → room ≤ length queue → queue ≡ queued queue (f ∷ [])
full queue f few many = sym (take_at queue (f ∷ []) room (omega arith))

pub roomy : (queue : List Frame) (f : Frame) → length queue < room → queue ++ f ∷ [] ≡ queued queue (f ∷ [])
roomy queue f few = sym (take_all room (queue ++ f ∷ []) (omega (arith, length-append queue (f ∷ []))))

-- ---- what is lost

without-at : {X : Type 0} (i : ℕ) (xs : List X) → without (suc i) xs ≡ remove xs i
without-at zero [] = refl
without-at zero (x ∷ xs) = refl
without-at (suc i) [] = refl
without-at (suc i) (x ∷ xs) = ap (λ rest. x ∷ rest) (without-at i xs)

pub without-place : {X : Type 0} (place : ℕ) (xs : List X) → 0 < place → remove xs (place - 1) ≡ without place xs
without-place zero xs some = absurd (omega arith)
without-place (suc i) xs some = let e : suc i - 1 ≡ i = omega arith in rw e (sym (without-at i xs))

-- a number that is no place in the list
outside : {X : Type 0} (place : ℕ) (xs : List X) → ((1 ≤ place) × (place ≤ length xs) → ⊥) → xs ≡ without place xs
outside place [] out = refl
outside zero (x ∷ xs) out = refl
outside (suc zero) (x ∷ xs) out = absurd (out (omega arith, omega arith))
outside (suc (suc i)) (x ∷ xs) out = ap (λ rest. x ∷ rest) (outside (suc i) xs (λ both. out (omega arith, omega (arith, both.1))))

pub without-outside : {X : Type 0} (place count : ℕ) (xs : List X) → count ≡ length xs → ((1 ≤ place) × (place ≤ count) → ⊥) → xs ≡ without place xs
without-outside place count xs is out = outside place xs (λ both. out (both.0, omega (arith, is, both.1)))

pub length-without : {X : Type 0} (place : ℕ) (xs : List X) → length (without place xs) ≤ length xs
length-without place [] = omega arith
length-without zero (x ∷ xs) = omega arith
length-without (suc zero) (x ∷ xs) = omega arith
length-without (suc (suc i)) (x ∷ xs) = omega (arith, length-without (suc i) xs)

-- ---- the least ordinal

least-first : (m n : ℕ) (ms : List ℕ) → least (min m n) ms ≡ min m (least n ms)
least-first m n [] = refl
least-first m n (x ∷ ms) = let more = least-first m n ms in omega (arith, more)

pub least-append : (n : ℕ) (xs ys : List ℕ) → least n (xs ++ ys) ≡ least (least n xs) ys
least-append n [] ys = refl
least-append n (x ∷ xs) ys = ap (min x) (least-append n xs ys) ∙ sym (least-first x (least n xs) ys)

pub least-behind : (n : ℕ) (xs ys : List ℕ) → least (least n ys) xs ≡ least n (xs ++ ys)
least-behind n [] ys = refl
least-behind n (x ∷ xs) ys = ap (min x) (least-behind n xs ys)

requests-front : (p : Proto) (f : Frame) (rest : List Frame) → requests (only p (f ∷ rest)) ≡ requests (seen p f) ++ requests (only p rest)
requests-front p f rest = flat_map-append (λ (m : Marked). request_mark m.mark m.packet) (seen p f) (only p rest)

answers-front : (p : Proto) (f : Frame) (rest : List Frame) → answers (only p (f ∷ rest)) ≡ answers (seen p f) ++ answers (only p rest)
answers-front p f rest = flat_map-append (λ (m : Marked). answer_mark m.mark m.packet) (seen p f) (only p rest)

-- one frame is looked at, and the rest is left
pub requests-next : (p : Proto) (queue : List Frame) (i : ℕ) (f : Frame) (n now whole : ℕ) (marks : List ℕ) → slice_get queue i ≡ Some f → now ≡ least n marks → marks ≡ requests (seen p f) →
    least n (requests (only p (drop i queue))) ≡ whole → least now (requests (only p (drop (suc i) queue))) ≡ whole
requests-next p queue i f n now whole marks is least_is marks_are left =
    ap (λ n. least n (requests (only p (drop (suc i) queue)))) (least_is ∙ ap (least n) marks_are)
    ∙ sym (least-append n (requests (seen p f)) (requests (only p (drop (suc i) queue))))
    ∙ ap (least n) (sym (requests-front p f (drop (suc i) queue)))
    ∙ ap (λ xs. least n (requests (only p xs))) (sym (drop-get queue i f is))
    ∙ left

pub answers-next : (p : Proto) (queue : List Frame) (i : ℕ) (f : Frame) (n now whole : ℕ) (marks : List ℕ) → slice_get queue i ≡ Some f → now ≡ least n marks → marks ≡ answers (seen p f) →
    least n (answers (only p (drop i queue))) ≡ whole → least now (answers (only p (drop (suc i) queue))) ≡ whole
answers-next p queue i f n now whole marks is least_is marks_are left =
    ap (λ n. least n (answers (only p (drop (suc i) queue)))) (least_is ∙ ap (least n) marks_are)
    ∙ sym (least-append n (answers (seen p f)) (answers (only p (drop (suc i) queue))))
    ∙ ap (least n) (sym (answers-front p f (drop (suc i) queue)))
    ∙ ap (λ xs. least n (answers (only p xs))) (sym (drop-get queue i f is))
    ∙ left

-- by the marks that each frame has
pub marks-next : (marks_of : Frame → List ℕ) (queue : List Frame) (i : ℕ) (f : Frame) (n now whole : ℕ) (marks : List ℕ) → slice_get queue i ≡ Some f → now ≡ least n marks → marks ≡ marks_of f →
    least n (flat_map marks_of (drop i queue)) ≡ whole → least now (flat_map marks_of (drop (suc i) queue)) ≡ whole
marks-next marks_of queue i f n now whole marks is least_is marks_are left =
    ap (λ n. least n (flat_map marks_of (drop (suc i) queue))) (least_is ∙ ap (least n) marks_are)
    ∙ sym (least-append n (marks_of f) (flat_map marks_of (drop (suc i) queue)))
    ∙ ap (λ xs. least n (flat_map marks_of xs)) (sym (drop-get queue i f is))
    ∙ left
