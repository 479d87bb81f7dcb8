-- One step of an end's BAP (after RFC 2125): the requests that wait then, and what is sent and told.
use Rattle.std.specs.Prelude.{◌≡◌, ℕ, ◌+◌, Bool, ◌&&◌, nat_lt, if◌then◌else◌, List, [], ◌∷◌, Option, Some, None}
use Rattle.ppp_bap.specs.Answer.{IfAsked, answer_to, answers_with, policy_asked, response_to}
use Rattle.ppp_bap.specs.BapOut.{Entry, Send, CloseLink, Dial}
use Rattle.ppp_bap.specs.BapPacket.{bap_octets, packet_of}
use Rattle.ppp_bap.specs.BundleView.{has_staying, is_idle}
use Rattle.ppp_bap.specs.Requests.{Requests, asked_of, drawn, is_drop_of, is_response_to, is_waiting, wait_ended, wait_of, with_wait}
use Rattle.ppp_bap.specs.declared.answer.Answer.TheVariants as answer
use Rattle.ppp_bap.specs.declared.bap_ask.BapAsk.{BapAsk}
use Rattle.ppp_bap.specs.declared.bap_ask.BapAsk.TheVariants as ask
use Rattle.ppp_bap.specs.declared.bap_packet.BapPacket.{BapPacket}
use Rattle.ppp_bap.specs.declared.bap_packet.Message.{Message}
use Rattle.ppp_bap.specs.declared.bap_packet.Message.TheVariants as message
use Rattle.ppp_bap.specs.declared.bap_packet.Request.{Request}
use Rattle.ppp_bap.specs.declared.bap_packet.Response.{Response}
use Rattle.ppp_bap.specs.declared.bap_packet.Response.TheVariants as answered
use Rattle.ppp_bap.specs.declared.bundle_view.BundleView.{BundleView}
use Rattle.ppp_bap.specs.declared.call_ask.CallAsk.{CallAsk}
use Rattle.ppp_bap.specs.declared.response_code.ResponseCode.TheVariants.{Ack}
use Rattle.ppp_bap.specs.declared.wait.Wait.{Wait}

pub record Step : Type 0 where
  pub requests : Requests
  pub out : List Entry

abbrev pub stays : Requests → Step
stays q = record { requests = q; out = [] }

-- a packet goes out
abbrev pub sends : ℕ → Message → List Entry
sends id m = Send (bap_octets (record { id = id; message = m })) ∷ []

-- ---- a peer's request

-- While an own request waits, a favoured end answers a Nak and keeps it. Another end withdraws it, and goes on.
abbrev pub keeps_own : BundleView → Requests → Bool
keeps_own v q = v.favoured && is_waiting v.bundle q

-- what the policy is asked, if it is
abbrev pub policy_asked_for : BundleView → Requests → Request → Option CallAsk
policy_asked_for v q request = if keeps_own v q then None else policy_asked v request

abbrev pub takes_request : Bool → BundleView → ℕ → Request → Requests → Step
takes_request allowed v id request q =
    if keeps_own v q
    then record { requests = q; out = sends id (message.Response (response_to request answer.Nak)) }
    else record { requests = wait_ended v.bundle q; out = answers_with id request (answer_to allowed v request) }

-- the policy says yes or no where it is asked, and the step is the one that follows
pub record TakesRequest (says : CallAsk → Bool → Type 0) (v : BundleView) (id : ℕ) (request : Request) (old new : Requests) (out : List Entry) : Type 0 where
  pub allowed : Bool
  pub said : IfAsked says (policy_asked_for v old request) allowed
  pub requests : new ≡ (takes_request allowed v id request old).requests
  pub sent : out ≡ (takes_request allowed v id request old).out

-- ---- a response

-- The Ack of a call dials the link that it names, where that is idle. That of a drop closes the link, where another joined and
-- unmarked link is there.
abbrev pub follows : BundleView → BapAsk → Response → List Entry
follows v ask.Call (answered.Call Ack (Some l)) = if is_idle v l then Dial l ∷ [] else []
follows v (ask.Drop l) (answered.Drop Ack) = if has_staying l v then CloseLink l ∷ [] else []
follows v what response = []

-- It counts where its Type and Identifier are those of the request that waits, and ends the wait.
abbrev pub takes_response : BundleView → ℕ → Response → Option Wait → Requests → Step
takes_response v id response None q = stays q
takes_response v id response (Some w) q =
    if is_response_to w id response
    then record { requests = wait_ended v.bundle q; out = follows v w.ask response }
    else stays q

-- ---- a packet

-- An indication is answered, and such an answer changes nothing.
abbrev pub takes_message : Bool → BundleView → ℕ → Message → Requests → Step
takes_message allowed v id (message.Request request) q = takes_request allowed v id request q
takes_message allowed v id (message.Response response) q = takes_response v id response (wait_of v.bundle q) q
takes_message allowed v id (message.StatusIndication status action) q = record { requests = q; out = sends id (message.StatusResponse Ack) }
takes_message allowed v id (message.StatusResponse code) q = stays q

-- octets that are no packet are discarded
abbrev pub takes_packet : Bool → BundleView → Option BapPacket → Requests → Step
takes_packet allowed v None q = stays q
takes_packet allowed v (Some p) q = takes_message allowed v p.id p.message q

abbrev pub takes : Bool → BundleView → List ℕ → Requests → Step
takes allowed v octets q = takes_packet allowed v (packet_of octets) q

-- what the policy is asked for a packet, if it is
abbrev pub asked_by_message : BundleView → Requests → Message → Option CallAsk
asked_by_message v q (message.Request request) = policy_asked_for v q request
asked_by_message v q (message.Response response) = None
asked_by_message v q (message.StatusIndication status action) = None
asked_by_message v q (message.StatusResponse code) = None

abbrev pub asked_by : BundleView → Requests → Option BapPacket → Option CallAsk
asked_by v q None = None
asked_by v q (Some p) = asked_by_message v q p.message

-- The end takes these octets: the policy says yes or no where it is asked, and the step is the one that follows from it.
pub record Takes (says : CallAsk → Bool → Type 0) (v : BundleView) (octets : List ℕ) (old new : Requests) (out : List Entry) : Type 0 where
  pub allowed : Bool
  pub said : IfAsked says (asked_by v old (packet_of octets)) allowed
  pub requests : new ≡ (takes allowed v octets old).requests
  pub sent : out ≡ (takes allowed v octets old).out

-- ---- a Call-Status-Indication

abbrev pub tells_status : ℕ → BundleView → Requests → Step
tells_status status v q =
    if v.live then record { requests = drawn q; out = sends q.next_id (message.StatusIndication status 0) } else stays q

-- ---- no response came

-- two timeouts send a copy, the third ends the wait
abbrev pub times_out : ℕ → Option Wait → Requests → Step
times_out b None q = stays q
times_out b (Some w) q =
    if nat_lt w.sent 3
    then record { requests = with_wait b (Some (record w { sent = w.sent + 1 })) q; out = sends w.id (message.Request w.request) }
    else stays (wait_ended b q)

-- ---- a link leaves the bundle

-- and with it the wait to drop it
abbrev pub without_link : ℕ → ℕ → Requests → Requests
without_link b l q = if is_drop_of l (asked_of b q) then wait_ended b q else q
