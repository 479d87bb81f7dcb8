-- What the entries of a step are about.
use Rattle.std.proofs.Common.{◌≡◌, ◌≤◌, ℕ, suc, Bool, true, false, List, [], ◌∷◌, length, refl, subst, ap, arith, cond}
use Rattle.std.specs.Prelude.{Option, Some, None, ◌&&◌, if◌then◌else◌, option_map}
use Rattle.std.specs.List.{AllByRecursion, find}
use Rattle.std.proofs.lemmas.Bool.{and_parts}
use Rattle.ppp_bap.specs.Answer.{answer_callback, answer_drop, answer_named, answer_to, answer_to_call, answers_with, done_by, response_to}
use Rattle.ppp_bap.specs.BapOut.{Entry, Send, Mark, CloseLink, Dial}
use Rattle.ppp_bap.specs.BapPacket.{packet_of}
use Rattle.ppp_bap.specs.Due.{IsDue, IsPromise}
use Rattle.ppp_bap.specs.BundleView.{has_staying, is_idle, is_joined, is_joined_as, leaves_too_few, link_numbered, spare_link}
use Rattle.ppp_bap.specs.LinkSet.{IsLink, least_link, link_numbers}
use Rattle.ppp_bap.specs.Requests.{AreRequests, IsOfLink, Requests, asked_of, is_response_to, wait_ended, wait_of}
use Rattle.ppp_bap.specs.Step.{Step, follows, keeps_own, sends, stays, takes, takes_message, takes_packet, takes_request, takes_response}
use Rattle.ppp_bap.specs.declared.answer.Answer.{Answer}
use Rattle.ppp_bap.specs.declared.answer.Answer.TheVariants as answer
use Rattle.ppp_bap.specs.declared.bap_ask.BapAsk.{BapAsk}
use Rattle.ppp_bap.specs.declared.bap_ask.BapAsk.TheVariants as ask
use Rattle.ppp_bap.specs.declared.bap_packet.BapPacket.{BapPacket}
use Rattle.ppp_bap.specs.declared.bap_packet.Message.{Message}
use Rattle.ppp_bap.specs.declared.bap_packet.Message.TheVariants as message
use Rattle.ppp_bap.specs.declared.bap_packet.Offer.{Offer}
use Rattle.ppp_bap.specs.declared.bap_packet.Request.{Request}
use Rattle.ppp_bap.specs.declared.bap_packet.Request.TheVariants as asked
use Rattle.ppp_bap.specs.declared.bap_packet.Response.{Response}
use Rattle.ppp_bap.specs.declared.bap_packet.Response.TheVariants as answered
use Rattle.ppp_bap.specs.declared.bundle_view.BundleView.{BundleView}
use Rattle.ppp_bap.specs.declared.response_code.ResponseCode.TheVariants.{Ack, Nak, Rej, FullNak}
use Rattle.ppp_bap.specs.declared.wait.Wait.{Wait}

find-passes_by : {X : Type 0} (p : X → Bool) (x y : X) (rest : Option X) (b : Bool) → p y ≡ b → cond b (Some y) rest ≡ Some x → (rest ≡ Some x → p x ≡ true) → p x ≡ true
find-passes_by p x y rest true t e h = let same : y ≡ x = cc in subst (λ z. p z ≡ true) same t
find-passes_by p x y rest false t e h = h e

find-passes : {X : Type 0} (p : X → Bool) (xs : List X) (x : X) → find p xs ≡ Some x → p x ≡ true
find-passes p [] x e = cc
find-passes p (y ∷ xs) x e = find-passes_by p x y (find p xs) (p y) refl e (find-passes p xs x)

-- the links of a drop's Ack
numbered-joined : (n : ℕ) (v : BundleView) (l : ℕ) → link_numbered n v ≡ Some l → is_joined v l ≡ true
unfolding least_link
numbered-joined n v l e = (and_parts _ _ (find-passes (is_joined_as n v) link_numbers l e)).0

-- an answer's link is one for its request
abbrev IsAckOf : BundleView → ℕ → Request → Type 0
IsAckOf v l (asked.Call offer) = Unit {0}
IsAckOf v l (asked.Callback offer link) = is_idle v l ≡ true
IsAckOf v l (asked.Drop number) = IsPromise v l

abbrev IsAnswered : BundleView → Request → Answer → Type 0
IsAnswered v request (answer.Ack l) = IsAckOf v l request
IsAnswered v request answer.Nak = Unit {0}
IsAnswered v request answer.Rej = Unit {0}
IsAnswered v request answer.FullNak = Unit {0}

answered-call : (v : BundleView) (offer : Offer) (a : Answer) → IsAnswered v (asked.Call offer) a
answered-call v offer (answer.Ack l) = tt
answered-call v offer answer.Nak = tt
answered-call v offer answer.Rej = tt
answered-call v offer answer.FullNak = tt

answered-named : (allowed : Bool) (v : BundleView) (offer : Offer) (link named : Option ℕ) → IsAnswered v (asked.Callback offer link) (answer_named allowed v named)
answered-named allowed v offer link None = tt
answered-named allowed v offer link (Some l) = by (is_idle v l && allowed) refl where
  by : (b : Bool) → is_idle v l && allowed ≡ b → IsAnswered v (asked.Callback offer link) (if b then answer.Ack l else answer.Nak)
  by true e = (and_parts _ _ e).0
  by false e = tt

answered-callback : (allowed : Bool) (v : BundleView) (offer : Offer) (link spare : Option ℕ) → IsAnswered v (asked.Callback offer link) (answer_callback allowed v link spare)
answered-callback allowed v offer link None = tt
answered-callback allowed v offer link (Some s) = answered-named allowed v offer link link

answered-callback_if : (allowed : Bool) (v : BundleView) (offer : Offer) (link : Option ℕ) (b : Bool) → IsAnswered v (asked.Callback offer link) (if b then answer_callback allowed v link (spare_link v) else answer.Rej)
answered-callback_if allowed v offer link true = answered-callback allowed v offer link (spare_link v)
answered-callback_if allowed v offer link false = tt

answered-drop : (v : BundleView) (number : ℕ) (named : Option ℕ) → link_numbered number v ≡ named → IsAnswered v (asked.Drop number) (answer_drop v named)
answered-drop v number None e = tt
answered-drop v number (Some l) e = by (leaves_too_few l v) refl where
  by : (b : Bool) → leaves_too_few l v ≡ b → IsAnswered v (asked.Drop number) (if b then answer.FullNak else answer.Ack l)
  by true f = tt
  by false f = record { joined = numbered-joined number v l e; stays = f }

answered-to : (allowed : Bool) (v : BundleView) (request : Request) → IsAnswered v request (answer_to allowed v request)
answered-to allowed v (asked.Call offer) = answered-call v offer (answer_to_call allowed v)
answered-to allowed v (asked.Callback offer link) = answered-callback_if allowed v offer link v.callbacks
answered-to allowed v (asked.Drop number) = answered-drop v number (link_numbered number v) refl

-- ---- entries

record AreDue (v : BundleView) (q : Requests) (most : ℕ) (es : List Entry) : Type 0 where
  links : AllByRecursion (IsDue v q) es
  few : length es ≤ most

none-due : (v : BundleView) (q : Requests) (most : ℕ) → AreDue v q most []
none-due v q most = record { links = tt; few = omega arith }

one-due : (v : BundleView) (q : Requests) (most : ℕ) (e : Entry) → IsDue v q e → AreDue v q (suc most) (e ∷ [])
one-due v q most e h = record { links = (h, tt); few = omega arith }

done-due : (v : BundleView) (q : Requests) (request : Request) (a : Answer) → IsAnswered v request a → AreDue v q 1 (done_by request a)
done-due v q (asked.Call offer) a h = none-due v q 1
done-due v q (asked.Callback offer link) (answer.Ack l) h = one-due v q 0 (Dial l) h
done-due v q (asked.Callback offer link) answer.Nak h = none-due v q 1
done-due v q (asked.Callback offer link) answer.Rej h = none-due v q 1
done-due v q (asked.Callback offer link) answer.FullNak h = none-due v q 1
done-due v q (asked.Drop number) (answer.Ack l) h = one-due v q 0 (Mark l) h
done-due v q (asked.Drop number) answer.Nak h = none-due v q 1
done-due v q (asked.Drop number) answer.Rej h = none-due v q 1
done-due v q (asked.Drop number) answer.FullNak h = none-due v q 1

sent-due : (v : BundleView) (q : Requests) (octets : List ℕ) (es : List Entry) → AreDue v q 1 es → AreDue v q 2 (Send octets ∷ es)
sent-due v q octets es h = record { links = (tt, h.links); few = omega (arith, h.few) }

request-due : (allowed : Bool) (v : BundleView) (id : ℕ) (request : Request) (q : Requests) → AreDue v q 2 (takes_request allowed v id request q).out
request-due allowed v id request q = by (keeps_own v q) where
  by : (b : Bool) → AreDue v q 2 (if◌then◌else◌ {A = Step} b (record { requests = q; out = sends id (message.Response (response_to request answer.Nak)) }) (record { requests = wait_ended v.bundle q; out = answers_with id request (answer_to allowed v request) })).out
  by true = one-due v q 1 _ tt
  by false = sent-due v q _ _ (done-due v q request (answer_to allowed v request) (answered-to allowed v request))

dial-due : (v : BundleView) (q : Requests) (l : ℕ) → AreDue v q 2 (if is_idle v l then Dial l ∷ [] else [])
dial-due v q l = by (is_idle v l) refl where
  by : (b : Bool) → is_idle v l ≡ b → AreDue v q 2 (if b then Dial l ∷ [] else [])
  by true e = one-due v q 1 _ e
  by false e = none-due v q 2

close-due : (v : BundleView) (q : Requests) (l : ℕ) → asked_of v.bundle q ≡ Some (ask.Drop l) → IsLink l → AreDue v q 2 (if has_staying l v then CloseLink l ∷ [] else [])
close-due v q l h k = by (has_staying l v) refl where
  by : (b : Bool) → has_staying l v ≡ b → AreDue v q 2 (if b then CloseLink l ∷ [] else [])
  by true e = one-due v q 1 _ (record { asked = h; link = k; stays = e })
  by false e = none-due v q 2

followed-due : (v : BundleView) (q : Requests) (what : BapAsk) (response : Response) → asked_of v.bundle q ≡ Some what → IsOfLink what → AreDue v q 2 (follows v what response)
followed-due v q ask.Call (answered.Call Ack None) h k = none-due v q 2
followed-due v q ask.Call (answered.Call Ack (Some l)) h k = dial-due v q l
followed-due v q ask.Call (answered.Call Nak link) h k = none-due v q 2
followed-due v q ask.Call (answered.Call Rej link) h k = none-due v q 2
followed-due v q ask.Call (answered.Call FullNak link) h k = none-due v q 2
followed-due v q ask.Call (answered.Callback code) h k = none-due v q 2
followed-due v q ask.Call (answered.Drop code) h k = none-due v q 2
followed-due v q ask.Callback response h k = none-due v q 2
followed-due v q (ask.Drop l) (answered.Call code link) h k = none-due v q 2
followed-due v q (ask.Drop l) (answered.Callback code) h k = none-due v q 2
followed-due v q (ask.Drop l) (answered.Drop Ack) h k = close-due v q l h k
followed-due v q (ask.Drop l) (answered.Drop Nak) h k = none-due v q 2
followed-due v q (ask.Drop l) (answered.Drop Rej) h k = none-due v q 2
followed-due v q (ask.Drop l) (answered.Drop FullNak) h k = none-due v q 2

response-due : (v : BundleView) (id : ℕ) (response : Response) (w : Option Wait) (q : Requests) → AreRequests q → wait_of v.bundle q ≡ w → AreDue v q 2 (takes_response v id response w q).out
response-due v id response None q all e = none-due v q 2
response-due v id response (Some w) q all e = by (is_response_to w id response) where
  by : (b : Bool) → AreDue v q 2 (if◌then◌else◌ {A = Step} b (record { requests = wait_ended v.bundle q; out = follows v w.ask response }) (stays q)).out
  by true = followed-due v q w.ask response (ap (option_map (λ (w : Wait). w.ask)) e) (all.waits v.bundle w e).link
  by false = none-due v q 2

message-due : (allowed : Bool) (v : BundleView) (id : ℕ) (m : Message) (q : Requests) → AreRequests q → AreDue v q 2 (takes_message allowed v id m q).out
message-due allowed v id (message.Request request) q all = request-due allowed v id request q
message-due allowed v id (message.Response response) q all = response-due v id response (wait_of v.bundle q) q all refl
message-due allowed v id (message.StatusIndication status action) q all = one-due v q 1 _ tt
message-due allowed v id (message.StatusResponse code) q all = none-due v q 2

packet-due : (allowed : Bool) (v : BundleView) (p : Option BapPacket) (q : Requests) → AreRequests q → AreDue v q 2 (takes_packet allowed v p q).out
packet-due allowed v None q all = none-due v q 2
packet-due allowed v (Some p) q all = message-due allowed v p.id p.message q all

pub links-due : (allowed : Bool) (v : BundleView) (octets : List ℕ) (q : Requests) → AreRequests q → AllByRecursion (IsDue v q) (takes allowed v octets q).out
links-due allowed v octets q all = (packet-due allowed v (packet_of octets) q all).links

pub few-due : (allowed : Bool) (v : BundleView) (octets : List ℕ) (q : Requests) → AreRequests q → length (takes allowed v octets q).out ≤ 2
few-due allowed v octets q all = (packet-due allowed v (packet_of octets) q all).few
