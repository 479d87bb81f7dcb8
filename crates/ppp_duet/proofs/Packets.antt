-- The packets that a row sends.
use Rattle.std.proofs.Common.{◌≡◌, ℕ, true, List, [], ◌∷◌, ◌++◌, Option, Some, None, refl}
use Rattle.std.specs.List.{AllByRecursion}
use Rattle.ppp_auto.specs.declared.action.Action.{Action}
use Rattle.ppp_auto.specs.declared.action.Action.TheVariants.{ThisLayerUp, ThisLayerDown, ThisLayerStarted, ThisLayerFinished, InitializeRestartCount, ZeroRestartCount, SendConfigureRequest, RepeatConfigureRequest, SendConfigureAck, SendConfigureNak, SendTerminateRequest, SendTerminateAck, SendCodeReject, SendEchoReply}
use Rattle.ppp_auto.specs.Auto.{Auto, last_id}
use Rattle.ppp_auto.specs.Taken.{Taken}
use Rattle.ppp_auto.specs.Outbox.{Effect}
use Rattle.ppp_auto.specs.Automaton.{answering, effects}
use Rattle.ppp_auto.specs.Packet.{Packet, Request, Other}
use Rattle.ppp_duet.specs.Duet.{Marked, marked}
use Rattle.ppp_duet.specs.Span.{requests, answers}
use Rattle.ppp_duet.proofs.EventTableLemmas.{sends_answer}
use Rattle.ppp_duet.proofs.Queues.{request_id, answer_id, options_in, answer_mark_of, request_marked, answer_marked, mark_all, marks_all, by_request, by_answer}

-- A request has that mark, and the Identifier and list of the end after the row; an answer has `P` of mark and
-- Identifier.
pub record Sent (n : ℕ) (new : Auto) (P : ℕ → ℕ → Type 0) (m : Marked) : Type 0 where
  pub asks : (id : ℕ) → request_id m.packet ≡ Some id → (m.mark ≡ n) × (id ≡ last_id new) × (options_in m.packet ≡ new.own)
  pub replies : (id : ℕ) → answer_id m.packet ≡ Some id → P m.mark id

-- an answer is no request, and has `P` of its Identifier
abbrev pub Replies : (ℕ → Type 0) → Packet → Type 0
Replies P p = (request_id p ≡ None) × ((id : ℕ) → answer_id p ≡ Some id → P id)

abbrev pub RepliesIf : (ℕ → Type 0) → Option Packet → Type 0
RepliesIf P answer = (p : Packet) → answer ≡ Some p → Replies P p

module _ (n mark : ℕ) (old new : Auto) (taken : Taken) (P : ℕ → ℕ → Type 0) where
  abbrev AreSent : List Effect → Type 0
  AreSent es = AllByRecursion (Sent n new P) (marked n mark es)

  request_sent : Sent n new P (record { mark = n; packet = Request (last_id new) new.own })
  request_sent = record { asks = λ id is. (refl, cc, refl); replies = λ id is. cc }

  other_sent : (code id : ℕ) (octets : List ℕ) → Sent n new P (record { mark = 0; packet = Other code id octets })
  other_sent code id octets = record { asks = λ i is. cc; replies = λ i is. cc }

  answer_sent : (answer : Option Packet) (es : List Effect) → RepliesIf (P mark) answer → AreSent es → AreSent (answering answer ++ es)
  answer_sent None es h k = k
  answer_sent (Some p) es h k =
      let replies = h p refl in
      (record { asks = λ id is. cc; replies = λ id is. rw (answer_mark_of n mark id p is) (replies.1 id is) }, k)

  pub all_sent : (actions : List Action) → (sends_answer actions ≡ true → RepliesIf (P mark) taken.answer) → AreSent (effects old new taken actions)
  all_sent [] h = tt
  all_sent (ThisLayerUp ∷ more) h = all_sent more h
  all_sent (ThisLayerDown ∷ more) h = all_sent more h
  all_sent (ThisLayerStarted ∷ more) h = all_sent more h
  all_sent (ThisLayerFinished ∷ more) h = all_sent more h
  all_sent (InitializeRestartCount ∷ more) h = all_sent more h
  all_sent (ZeroRestartCount ∷ more) h = all_sent more h
  all_sent (SendConfigureRequest ∷ more) h = (request_sent, all_sent more h)
  all_sent (RepeatConfigureRequest ∷ more) h = (request_sent, all_sent more h)
  all_sent (SendConfigureAck ∷ more) h = answer_sent taken.answer (effects old new taken more) (h refl) (all_sent more (λ _. h refl))
  all_sent (SendConfigureNak ∷ more) h = answer_sent taken.answer (effects old new taken more) (h refl) (all_sent more (λ _. h refl))
  all_sent (SendTerminateRequest ∷ more) h = (other_sent _ _ _, all_sent more h)
  all_sent (SendTerminateAck ∷ more) h = (other_sent _ _ _, all_sent more h)
  all_sent (SendCodeReject ∷ more) h = (other_sent _ _ _, all_sent more h)
  all_sent (SendEchoReply ∷ more) h = answer_sent taken.answer (effects old new taken more) (h refl) (all_sent more (λ _. h refl))

-- the marks of what is sent
pub sent_requests : (n : ℕ) (new : Auto) (P : ℕ → ℕ → Type 0) (sent : List Marked) → AllByRecursion (Sent n new P) sent →
    AllByRecursion (λ mark. mark ≡ n) (requests sent)
sent_requests n new P sent h =
    marks_all by_request (λ mark. mark ≡ n) (λ m (s : Sent n new P m). rw (request_marked m.mark m.packet) (mark_all (λ mark. mark ≡ n) m.mark (request_id m.packet) (λ id is. (s.asks id is).0))) sent h

pub sent_answers : (n : ℕ) (new : Auto) (P : ℕ → ℕ → Type 0) (Q : ℕ → Type 0) → ((mark id : ℕ) → P mark id → Q mark) →
    (sent : List Marked) → AllByRecursion (Sent n new P) sent → AllByRecursion Q (answers sent)
sent_answers n new P Q step sent h =
    marks_all by_answer Q (λ m (s : Sent n new P m). rw (answer_marked m.mark m.packet) (mark_all Q m.mark (answer_id m.packet) (λ id is. step m.mark id (s.replies id is)))) sent h
