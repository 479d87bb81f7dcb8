-- What a step sends and tells, and which requests wait behind it.
use Rattle.std.proofs.Common.{◌≡◌, ◌∙◌, ◌≤◌, ◌+◌, ℕ, Bool, true, false, List, [], ◌∷◌, length, refl, sym, subst, ap, arith, inl, inr, ⊎_elim}
use Rattle.std.specs.Prelude.{◌⊎◌, Option, Some, None, Result, Ok, Err, IfOk, OnErr, nat_lt, not, if◌then◌else◌, option_map, ⊤}
use Rattle.std.proofs.lemmas.Bool.Decides.{nat_tests}
use Rattle.ppp_bap.specs.Answer.{answer_to, answers_with, response_to}
use Rattle.ppp_bap.specs.Ask.{asks, asks_by}
use Rattle.ppp_bap.specs.BapOut.{Entry, Send, Mark, CloseLink, Dial}
use Rattle.ppp_bap.specs.BapPacket.{packet_of}
use Rattle.ppp_bap.specs.BundleView.{has_staying, is_idle, is_joined, peer_number}
use Rattle.ppp_bap.specs.Requests.{AreRequests, IsOfLink, Requests, asked_of, drawn, first_sent, is_response_to, is_waiting, wait_ended, wait_of, with_wait}
use Rattle.ppp_bap.specs.Step.{Step, follows, keeps_own, sends, stays, takes, takes_message, takes_packet, takes_request, takes_response, tells_status, times_out}
use Rattle.ppp_bap.specs.Wish.{drop_asked, request_for, told, wished}
use Rattle.ppp_bap.specs.declared.answer.Answer.{Answer}
use Rattle.ppp_bap.specs.declared.answer.Answer.TheVariants as answer
use Rattle.ppp_bap.specs.declared.ask_refused.AskRefused.{AskRefused}
use Rattle.ppp_bap.specs.declared.ask_refused.AskRefused.TheVariants as why
use Rattle.ppp_bap.specs.declared.bap_ask.BapAsk.{BapAsk}
use Rattle.ppp_bap.specs.declared.bap_ask.BapAsk.TheVariants as ask
use Rattle.ppp_bap.specs.declared.bap_packet.BapPacket.{BapPacket}
use Rattle.ppp_bap.specs.declared.bap_packet.Message.{Message}
use Rattle.ppp_bap.specs.declared.bap_packet.Message.TheVariants as message
use Rattle.ppp_bap.specs.declared.bap_packet.Request.{Request}
use Rattle.ppp_bap.specs.declared.bap_packet.Request.TheVariants as asked
use Rattle.ppp_bap.specs.declared.bap_packet.Response.{Response}
use Rattle.ppp_bap.specs.declared.bap_packet.Response.TheVariants as answered
use Rattle.ppp_bap.specs.declared.bundle_view.BundleView.{BundleView}
use Rattle.ppp_bap.specs.declared.response_code.ResponseCode.TheVariants.{Ack, Nak, Rej, FullNak}
use Rattle.ppp_bap.specs.declared.wait.Wait.{Wait}
use Rattle.ppp_bap.proofs.PacketLemmas.{packet-short}
use Rattle.ppp_bap.proofs.PlaceLemmas.{set-either}
use Rattle.ppp_bap.proofs.RequestsLemmas.{request-alike, sound-ended, sound-waiting}

-- ---- what is sent and told: a packet, and a mark or a link to dial behind it, or one entry alone

abbrev pub IsSent : Entry → Type 0
IsSent (Send octets) = length octets ≤ 1500
IsSent (Mark l) = Unit {0}
IsSent (CloseLink l) = Unit {0}
IsSent (Dial l) = Unit {0}

abbrev pub IsPacket : Entry → Type 0
IsPacket (Send octets) = length octets ≤ 1500
IsPacket (Mark l) = ⊥
IsPacket (CloseLink l) = ⊥
IsPacket (Dial l) = ⊥

abbrev pub IsBehind : Entry → Type 0
IsBehind (Send octets) = ⊥
IsBehind (Mark l) = Unit {0}
IsBehind (CloseLink l) = ⊥
IsBehind (Dial l) = Unit {0}

abbrev pub AreSent : List Entry → Type 0
AreSent [] = Unit {0}
AreSent (e ∷ []) = IsSent e
AreSent (e ∷ f ∷ []) = IsPacket e × IsBehind f
AreSent (e ∷ f ∷ g ∷ es) = ⊥

pub packet-sent : (id : ℕ) (m : Message) → AreSent (sends id m)
packet-sent id m = packet-short (record { id = id; message = m })

answered-sent : (id : ℕ) (request : Request) (a : Answer) → AreSent (answers_with id request a)
answered-sent id (asked.Call offer) a = packet-short (record { id = id; message = message.Response (response_to (asked.Call offer) a) })
answered-sent id (asked.Callback offer link) (answer.Ack l) = (packet-short (record { id = id; message = message.Response (response_to (asked.Callback offer link) (answer.Ack l)) }), tt)
answered-sent id (asked.Callback offer link) answer.Nak = packet-short (record { id = id; message = message.Response (response_to (asked.Callback offer link) answer.Nak) })
answered-sent id (asked.Callback offer link) answer.Rej = packet-short (record { id = id; message = message.Response (response_to (asked.Callback offer link) answer.Rej) })
answered-sent id (asked.Callback offer link) answer.FullNak = packet-short (record { id = id; message = message.Response (response_to (asked.Callback offer link) answer.FullNak) })
answered-sent id (asked.Drop number) (answer.Ack l) = (packet-short (record { id = id; message = message.Response (response_to (asked.Drop number) (answer.Ack l)) }), tt)
answered-sent id (asked.Drop number) answer.Nak = packet-short (record { id = id; message = message.Response (response_to (asked.Drop number) answer.Nak) })
answered-sent id (asked.Drop number) answer.Rej = packet-short (record { id = id; message = message.Response (response_to (asked.Drop number) answer.Rej) })
answered-sent id (asked.Drop number) answer.FullNak = packet-short (record { id = id; message = message.Response (response_to (asked.Drop number) answer.FullNak) })

dial-sent : (b : Bool) (l : ℕ) → AreSent (if b then Dial l ∷ [] else [])
dial-sent true l = tt
dial-sent false l = tt

close-sent : (b : Bool) (l : ℕ) → AreSent (if b then CloseLink l ∷ [] else [])
close-sent true l = tt
close-sent false l = tt

followed-sent : (v : BundleView) (what : BapAsk) (response : Response) → AreSent (follows v what response)
followed-sent v ask.Call (answered.Call Ack None) = tt
followed-sent v ask.Call (answered.Call Ack (Some l)) = dial-sent (is_idle v l) l
followed-sent v ask.Call (answered.Call Nak link) = tt
followed-sent v ask.Call (answered.Call Rej link) = tt
followed-sent v ask.Call (answered.Call FullNak link) = tt
followed-sent v ask.Call (answered.Callback code) = tt
followed-sent v ask.Call (answered.Drop code) = tt
followed-sent v ask.Callback response = tt
followed-sent v (ask.Drop l) (answered.Call code link) = tt
followed-sent v (ask.Drop l) (answered.Callback code) = tt
followed-sent v (ask.Drop l) (answered.Drop Ack) = close-sent (has_staying l v) l
followed-sent v (ask.Drop l) (answered.Drop Nak) = tt
followed-sent v (ask.Drop l) (answered.Drop Rej) = tt
followed-sent v (ask.Drop l) (answered.Drop FullNak) = tt

-- ---- which requests wait behind a step

-- no other one waits than before
abbrev pub AskNoMore : Requests → Requests → Type 0
AskNoMore q new = (j : ℕ) → (asked_of j new ≡ None) ⊎ (asked_of j new ≡ asked_of j q)

-- and they are sound
pub record Keeps (q : Requests) (step : Step) : Type 0 where
  pub sound : AreRequests step.requests
  pub asked : AskNoMore q step.requests
  pub sent : AreSent step.out

asked-by : Option Wait → Option BapAsk
asked-by w = option_map (λ (w : Wait). w.ask) w

pub ended-asks : (b : ℕ) (q : Requests) → AskNoMore q (wait_ended b q)
ended-asks b q = λ j. ⊎_elim (λ h. inl (ap (option_map (λ (w : Wait). w.ask)) h.1)) (λ h. inr (ap (option_map (λ (w : Wait). w.ask)) h)) (set-either q.waits b j None)

same-asks : (q : Requests) → AskNoMore q q
same-asks q = λ j. inr refl

keeps-none : (q : Requests) → AreRequests q → Keeps q (stays q)
keeps-none q all = record { sound = all; asked = same-asks q; sent = tt }

keeps-ended : (b : ℕ) (q : Requests) (es : List Entry) → AreRequests q → AreSent es → Keeps q (record { requests = wait_ended b q; out = es })
keeps-ended b q es all sent = record { sound = sound-ended b q all; asked = ended-asks b q; sent = sent }

request-keeps : (allowed : Bool) (v : BundleView) (id : ℕ) (request : Request) (q : Requests) → AreRequests q → Keeps q (takes_request allowed v id request q)
request-keeps allowed v id request q all = by (keeps_own v q) where
  by : (b : Bool) → Keeps q (if◌then◌else◌ {A = Step} b (record { requests = q; out = sends id (message.Response (response_to request answer.Nak)) }) (record { requests = wait_ended v.bundle q; out = answers_with id request (answer_to allowed v request) }))
  by true = record { sound = all; asked = same-asks q; sent = packet-sent id (message.Response (response_to request answer.Nak)) }
  by false = keeps-ended v.bundle q _ all (answered-sent id request (answer_to allowed v request))

response-keeps : (v : BundleView) (id : ℕ) (response : Response) (w : Option Wait) (q : Requests) → AreRequests q → Keeps q (takes_response v id response w q)
response-keeps v id response None q all = keeps-none q all
response-keeps v id response (Some w) q all = by (is_response_to w id response) where
  by : (b : Bool) → Keeps q (if◌then◌else◌ {A = Step} b (record { requests = wait_ended v.bundle q; out = follows v w.ask response }) (stays q))
  by true = keeps-ended v.bundle q _ all (followed-sent v w.ask response)
  by false = keeps-none q all

message-keeps : (allowed : Bool) (v : BundleView) (id : ℕ) (m : Message) (q : Requests) → AreRequests q → Keeps q (takes_message allowed v id m q)
message-keeps allowed v id (message.Request request) q all = request-keeps allowed v id request q all
message-keeps allowed v id (message.Response response) q all = response-keeps v id response (wait_of v.bundle q) q all
message-keeps allowed v id (message.StatusIndication status action) q all = record { sound = all; asked = same-asks q; sent = packet-sent id (message.StatusResponse Ack) }
message-keeps allowed v id (message.StatusResponse code) q all = keeps-none q all

packet-keeps : (allowed : Bool) (v : BundleView) (p : Option BapPacket) (q : Requests) → AreRequests q → Keeps q (takes_packet allowed v p q)
packet-keeps allowed v None q all = keeps-none q all
packet-keeps allowed v (Some p) q all = message-keeps allowed v p.id p.message q all

pub takes-keeps : (allowed : Bool) (v : BundleView) (octets : List ℕ) (q : Requests) → AreRequests q → Keeps q (takes allowed v octets q)
takes-keeps allowed v octets q all = packet-keeps allowed v (packet_of octets) q all

pub sound-drawn : (q : Requests) → AreRequests q → AreRequests (drawn q)
sound-drawn q all = record { next = omega arith; places = all.places; waits = all.waits }

pub tells-keeps : (status : ℕ) (v : BundleView) (q : Requests) → AreRequests q → Keeps q (tells_status status v q)
tells-keeps status v q all = by v.live where
  by : (b : Bool) → Keeps q (if◌then◌else◌ {A = Step} b (record { requests = drawn q; out = sends q.next_id (message.StatusIndication status 0) }) (stays q))
  by true = record { sound = sound-drawn q all; asked = λ j. inr refl; sent = packet-sent q.next_id (message.StatusIndication status 0) }
  by false = keeps-none q all

-- a request that is sent again asks what it asked
again-asks : (b : ℕ) (w x : Wait) (q : Requests) → wait_of b q ≡ Some w → x.ask ≡ w.ask → AskNoMore q (with_wait b (Some x) q)
again-asks b w x q is same = λ j. ⊎_elim
    (λ h. inr (ap (option_map (λ (w : Wait). w.ask)) h.1 ∙ ap (λ y. Some y) same ∙ sym (ap (λ j. asked_of j q) h.0 ∙ ap (option_map (λ (w : Wait). w.ask)) is)))
    (λ h. inr (ap (option_map (λ (w : Wait). w.ask)) h)) (set-either q.waits b j (Some x))

times-keeps_by : (b : ℕ) (w : Wait) (q : Requests) (again : Bool) → AreRequests q → wait_of b q ≡ Some w → nat_lt w.sent 3 ≡ again →
    Keeps q (if◌then◌else◌ {A = Step} again (record { requests = with_wait b (Some (record w { sent = w.sent + 1 })) q; out = sends w.id (message.Request w.request) }) (stays (wait_ended b q)))
times-keeps_by b w q true all is test =
    let one = all.waits b w is in
    record {
      sound = sound-waiting b (record w { sent = w.sent + 1 }) q all
          (record { id = one.id; link = one.link; least = omega arith; most = grind (arith, nat_tests); alike = one.alike });
      asked = again-asks b w (record w { sent = w.sent + 1 }) q is refl;
      sent = packet-sent w.id (message.Request w.request);
    }
times-keeps_by b w q false all is test = keeps-ended b q [] all tt

pub times-keeps : (b : ℕ) (w : Option Wait) (q : Requests) → AreRequests q → wait_of b q ≡ w → Keeps q (times_out b w q)
times-keeps b None q all is = keeps-none q all
times-keeps b (Some w) q all is = times-keeps_by b w q (nat_lt w.sent 3) all is refl

-- ---- an end that is asked

-- a link that is to be dropped is joined
abbrev pub IsAskJoined : BundleView → BapAsk → Type 0
IsAskJoined v ask.Call = Unit {0}
IsAskJoined v ask.Callback = Unit {0}
IsAskJoined v (ask.Drop l) = is_joined v l ≡ true

drop-joined : (l : ℕ) (v : BundleView) (r : Request) (b : Bool) → is_joined v l ≡ b → (if b then drop_asked l v (peer_number l v) else Err (why.NotJoined l)) ≡ Ok r → is_joined v l ≡ true
drop-joined l v r true is e = is
drop-joined l v r false is e = absurd (cc)

wished-joined : (what : BapAsk) (v : BundleView) (r : Request) → wished what v ≡ Ok r → IsAskJoined v what
wished-joined ask.Call v r e = tt
wished-joined ask.Callback v r e = tt
wished-joined (ask.Drop l) v r e = drop-joined l v r (is_joined v l) refl e

waiting-joined : (what : BapAsk) (v : BundleView) (r : Request) (b : Bool) → (if b then Err why.Waiting else wished what v) ≡ Ok r → IsAskJoined v what
waiting-joined what v r true e = absurd (cc)
waiting-joined what v r false e = wished-joined what v r e

live-joined : (what : BapAsk) (v : BundleView) (q : Requests) (r : Request) (b : Bool) → (if b then Err why.NotOpen else (if is_waiting v.bundle q then Err why.Waiting else wished what v)) ≡ Ok r → IsAskJoined v what
live-joined what v q r true e = absurd (cc)
live-joined what v q r false e = waiting-joined what v r (is_waiting v.bundle q) e

-- what waits then is what waited, or is asked
abbrev pub AskOneMore : BapAsk → BundleView → Requests → Requests → Type 0
AskOneMore what v q new = (j : ℕ) → (asked_of j new ≡ asked_of j q) ⊎ ((asked_of j new ≡ Some what) × (j ≡ v.bundle) × IsAskJoined v what)

pub record KeepsAsking (what : BapAsk) (v : BundleView) (q : Requests) (step : Step) : Type 0 where
  pub sound : AreRequests step.requests
  pub asked : AskOneMore what v q step.requests
  pub sent : AreSent step.out

asks-keeps_by : (what : BapAsk) (v : BundleView) (q : Requests) (o : Result Request AskRefused) → AreRequests q → IsOfLink what → request_for what v q ≡ o →
    KeepsAsking what v q (asks_by v.bundle what o q)
asks-keeps_by what v q (Err why) all of is = record { sound = all; asked = λ j. inl refl; sent = tt }
asks-keeps_by what v q (Ok r) all of is = record {
  sound = sound-drawn _ (sound-waiting v.bundle (record { id = q.next_id; ask = what; request = r; sent = 1 }) q all
      (record { id = all.next; link = of; least = omega arith; most = omega arith; alike = request-alike what v q r is }));
  asked = λ j. ⊎_elim
      (λ h. inr (ap (option_map (λ (w : Wait). w.ask)) h.1, h.0, live-joined what v q r (not v.live) is))
      (λ h. inl (ap (option_map (λ (w : Wait). w.ask)) h)) (set-either q.waits v.bundle j (Some (record { id = q.next_id; ask = what; request = r; sent = 1 })));
  sent = packet-sent q.next_id (message.Request r);
}

pub asks-keeps : (what : BapAsk) (v : BundleView) (q : Requests) → AreRequests q → IsOfLink what → KeepsAsking what v q (asks what v q)
asks-keeps what v q all of = asks-keeps_by what v q (request_for what v q) all of refl

-- ---- what a call of it ensures

asked-new_by : (what : BapAsk) (v : BundleView) (q new : Requests) (o : Result Request AskRefused) →
    IfOk o (λ r. new ≡ first_sent v.bundle what r q) → OnErr (told o) (new ≡ q) → new ≡ (asks_by v.bundle what o q).requests
asked-new_by what v q new (Ok r) ok err = ok
asked-new_by what v q new (Err why) ok err = err

pub asked-new : (what : BapAsk) (v : BundleView) (q new : Requests) (a : Result ⊤ AskRefused) → a ≡ told (request_for what v q) →
    IfOk (request_for what v q) (λ r. new ≡ first_sent v.bundle what r q) → OnErr a (new ≡ q) → new ≡ (asks what v q).requests
asked-new what v q new a is ok err = asked-new_by what v q new (request_for what v q) ok (subst (λ a. OnErr a (new ≡ q)) is err)

asked-ok_by : (what : BapAsk) (v : BundleView) (q : Requests) (es : List Entry) (o : Result Request AskRefused) →
    IfOk o (λ r. es ≡ sends q.next_id (message.Request r)) → told o ≡ Ok tt → es ≡ (asks_by v.bundle what o q).out
asked-ok_by what v q es (Ok r) sent is = sent
asked-ok_by what v q es (Err why) sent is = absurd (cc)

-- what it sends where it doesn't refuse
pub asked-ok : (what : BapAsk) (v : BundleView) (q : Requests) (es : List Entry) (a : Result ⊤ AskRefused) → a ≡ told (request_for what v q) →
    IfOk (request_for what v q) (λ r. es ≡ sends q.next_id (message.Request r)) → a ≡ Ok tt → es ≡ (asks what v q).out
asked-ok what v q es a is sent ok = asked-ok_by what v q es (request_for what v q) sent (sym is ∙ ok)

asked-err_by : (what : BapAsk) (v : BundleView) (q : Requests) (o : Result Request AskRefused) (why : AskRefused) → told o ≡ Err why → asks_by v.bundle what o q ≡ stays q
asked-err_by what v q (Ok r) why is = absurd (cc)
asked-err_by what v q (Err other) why is = refl

-- and nothing happens where it refuses
pub asked-err : (what : BapAsk) (v : BundleView) (q : Requests) (a : Result ⊤ AskRefused) (why : AskRefused) → a ≡ told (request_for what v q) → a ≡ Err why → asks what v q ≡ stays q
asked-err what v q a why is err = asked-err_by what v q (request_for what v q) why (sym is ∙ err)

-- ---- a packet alone

abbrev pub IsAlone : List Entry → Type 0
IsAlone [] = Unit {0}
IsAlone (e ∷ []) = IsPacket e
IsAlone (e ∷ f ∷ es) = ⊥

asks-alone_by : (b : ℕ) (what : BapAsk) (q : Requests) (o : Result Request AskRefused) → IsAlone (asks_by b what o q).out
asks-alone_by b what q (Ok r) = packet-sent q.next_id (message.Request r)
asks-alone_by b what q (Err why) = tt

pub asks-alone : (what : BapAsk) (v : BundleView) (q : Requests) → IsAlone (asks what v q).out
asks-alone what v q = asks-alone_by v.bundle what q (request_for what v q)

pub tells-alone : (status : ℕ) (v : BundleView) (q : Requests) → IsAlone (tells_status status v q).out
tells-alone status v q = by v.live where
  by : (b : Bool) → IsAlone (if◌then◌else◌ {A = Step} b (record { requests = drawn q; out = sends q.next_id (message.StatusIndication status 0) }) (stays q)).out
  by true = packet-sent q.next_id (message.StatusIndication status 0)
  by false = tt

pub times-alone : (b : ℕ) (w : Option Wait) (q : Requests) → IsAlone (times_out b w q).out
times-alone b None q = tt
times-alone b (Some w) q = by (nat_lt w.sent 3) where
  by : (again : Bool) → IsAlone (if◌then◌else◌ {A = Step} again (record { requests = with_wait b (Some (record w { sent = w.sent + 1 })) q; out = sends w.id (message.Request w.request) }) (stays (wait_ended b q))).out
  by true = packet-sent w.id (message.Request w.request)
  by false = tt
