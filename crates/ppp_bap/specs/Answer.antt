-- What an end answers to its peer's requests (after RFC 2125).
use Rattle.std.specs.Prelude.{ℕ, Bool, true, false, ◌&&◌, if◌then◌else◌, List, [], ◌∷◌, Option, Some, None, ⊤}
use Rattle.ppp_bap.specs.BapOut.{Entry, Send, Mark, Dial}
use Rattle.ppp_bap.specs.BapPacket.{bap_octets}
use Rattle.ppp_bap.specs.BundleView.{is_idle, leaves_too_few, joined_count, link_numbered, spare_link}
use Rattle.ppp_bap.specs.declared.answer.Answer.{Answer}
use Rattle.ppp_bap.specs.declared.answer.Answer.TheVariants as answer
use Rattle.ppp_bap.specs.declared.bap_packet.Message.TheVariants as message
use Rattle.ppp_bap.specs.declared.bap_packet.Offer.{Offer}
use Rattle.ppp_bap.specs.declared.bap_packet.Request.{Request}
use Rattle.ppp_bap.specs.declared.bap_packet.Request.TheVariants as asked
use Rattle.ppp_bap.specs.declared.bap_packet.Response.{Response}
use Rattle.ppp_bap.specs.declared.bap_packet.Response.TheVariants as answered
use Rattle.ppp_bap.specs.declared.bundle_view.BundleView.{BundleView}
use Rattle.ppp_bap.specs.declared.call_ask.CallAsk.{CallAsk}
use Rattle.ppp_bap.specs.declared.response_code.ResponseCode.{ResponseCode}
use Rattle.ppp_bap.specs.declared.response_code.ResponseCode.TheVariants.{Ack, Nak, Rej, FullNak}

-- ---- the policy

-- a peer's wish for another link, as a policy is asked for it
abbrev pub call_ask : Bool → Offer → BundleView → CallAsk
call_ask callback offer v = record { callback = callback; speed = offer.speed; kind = offer.kind; joined = joined_count v; most = v.most }

abbrev pub if_spare : Option ℕ → CallAsk → Option CallAsk
if_spare None question = None
if_spare (Some l) question = Some question

-- whether a callback names a link that is idle here
abbrev pub names_idle : Option ℕ → BundleView → Bool
names_idle None v = false
names_idle (Some l) v = is_idle v l

-- what the policy is asked for a request, if it is asked
abbrev pub policy_asked : BundleView → Request → Option CallAsk
policy_asked v (asked.Call offer) = if v.calls then if_spare (spare_link v) (call_ask false offer v) else None
policy_asked v (asked.Callback offer link) =
    if v.callbacks && names_idle link v then if_spare (spare_link v) (call_ask true offer v) else None
policy_asked v (asked.Drop number) = None

-- it says so, if it is asked
abbrev pub IfAsked : (CallAsk → Bool → Type 0) → Option CallAsk → Bool → Type 0
IfAsked says None allowed = ⊤
IfAsked says (Some question) allowed = says question allowed

-- ---- answers

-- the Ack of a call tells the least idle link
abbrev pub answer_call : Bool → Option ℕ → Answer
answer_call allowed None = answer.FullNak
answer_call allowed (Some l) = if allowed then answer.Ack l else answer.Nak

-- that of a callback dials the link that it names
abbrev pub answer_named : Bool → BundleView → Option ℕ → Answer
answer_named allowed v None = answer.Nak
answer_named allowed v (Some l) = if is_idle v l && allowed then answer.Ack l else answer.Nak

abbrev pub answer_callback : Bool → BundleView → Option ℕ → Option ℕ → Answer
answer_callback allowed v link None = answer.FullNak
answer_callback allowed v link (Some spare) = answer_named allowed v link

-- that of a drop promises the least joined link with that number
abbrev pub answer_drop : BundleView → Option ℕ → Answer
answer_drop v None = answer.Nak
answer_drop v (Some l) = if leaves_too_few l v then answer.FullNak else answer.Ack l

abbrev pub answer_to_call : Bool → BundleView → Answer
answer_to_call allowed v = if v.calls then answer_call allowed (spare_link v) else answer.Rej

abbrev pub answer_to_callback : Bool → BundleView → Option ℕ → Answer
answer_to_callback allowed v link = if v.callbacks then answer_callback allowed v link (spare_link v) else answer.Rej

-- where the policy allows it, or doesn't
abbrev pub answer_to : Bool → BundleView → Request → Answer
answer_to allowed v (asked.Call offer) = answer_to_call allowed v
answer_to allowed v (asked.Callback offer link) = answer_to_callback allowed v link
answer_to allowed v (asked.Drop number) = answer_drop v (link_numbered number v)

-- ---- what is sent and done

abbrev pub code_of_answer : Answer → ResponseCode
code_of_answer (answer.Ack l) = Ack
code_of_answer answer.Nak = Nak
code_of_answer answer.Rej = Rej
code_of_answer answer.FullNak = FullNak

abbrev pub link_of_answer : Answer → Option ℕ
link_of_answer (answer.Ack l) = Some l
link_of_answer answer.Nak = None
link_of_answer answer.Rej = None
link_of_answer answer.FullNak = None

abbrev pub response_to : Request → Answer → Response
response_to (asked.Call offer) a = answered.Call (code_of_answer a) (link_of_answer a)
response_to (asked.Callback offer link) a = answered.Callback (code_of_answer a)
response_to (asked.Drop number) a = answered.Drop (code_of_answer a)

-- what an Ack does here
abbrev pub done_by : Request → Answer → List Entry
done_by (asked.Callback offer link) (answer.Ack l) = Dial l ∷ []
done_by (asked.Drop number) (answer.Ack l) = Mark l ∷ []
done_by request answer = []

-- the response comes first
abbrev pub answers_with : ℕ → Request → Answer → List Entry
answers_with id request a = Send (bap_octets (record { id = id; message = message.Response (response_to request a) })) ∷ done_by request a
