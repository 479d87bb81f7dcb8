-- Where the policy isn't asked for a packet, it doesn't matter what it would say.
use Rattle.std.proofs.Common.{◌≡◌, ℕ, Bool, true, false, ◌&&◌, if◌then◌else◌, List, refl, ap}
use Rattle.std.specs.Prelude.{Option, Some, None}
use Rattle.ppp_bap.specs.Answer.{answer_call, answer_callback, answer_to, answers_with, if_spare, names_idle, policy_asked}
use Rattle.ppp_bap.specs.BapPacket.{packet_of}
use Rattle.ppp_bap.specs.BundleView.{is_idle, spare_link}
use Rattle.ppp_bap.specs.Requests.{Requests, wait_ended}
use Rattle.ppp_bap.specs.Step.{asked_by, asked_by_message, keeps_own, policy_asked_for, takes, takes_message, takes_packet, takes_request}
use Rattle.ppp_bap.specs.declared.bap_packet.BapPacket.{BapPacket}
use Rattle.ppp_bap.specs.declared.bap_packet.Message.{Message}
use Rattle.ppp_bap.specs.declared.bap_packet.Message.TheVariants as message
use Rattle.ppp_bap.specs.declared.bap_packet.Request.{Request}
use Rattle.ppp_bap.specs.declared.bap_packet.Request.TheVariants as asked
use Rattle.ppp_bap.specs.declared.bundle_view.BundleView.{BundleView}
use Rattle.ppp_bap.specs.declared.call_ask.CallAsk.{CallAsk}

if-then : {X : Type 0} (c : Bool) (x y z : X) → (c ≡ true → x ≡ y) → (if c then x else z) ≡ (if c then y else z)
if-then true x y z same = same refl
if-then false x y z same = refl

if-else : {X : Type 0} (c : Bool) (x y z : X) → (c ≡ false → x ≡ y) → (if c then z else x) ≡ (if c then z else y)
if-else true x y z same = refl
if-else false x y z same = same refl

if-off : {X : Type 0} (i a b : Bool) (x y : X) → i ≡ false → (if i && a then x else y) ≡ (if i && b then x else y)
if-off true a b x y off = absurd (cc)
if-off false a b x y off = refl

not-some : {X : Type 0} (i : Bool) (x : X) → (if i then Some x else None) ≡ None → i ≡ false
not-some true x e = absurd (cc)
not-some false x e = refl

if-on : {X : Type 0} (c : Bool) (o : Option X) → c ≡ true → (if c then o else None) ≡ None → o ≡ None
if-on true o on e = e
if-on false o on e = absurd (cc)

if-out : {X : Type 0} (c : Bool) (o : Option X) → c ≡ false → (if c then None else o) ≡ None → o ≡ None
if-out true o off e = absurd (cc)
if-out false o off e = e

call-unasked : (a b : Bool) (o : Option ℕ) (q : CallAsk) → if_spare o q ≡ None → answer_call a o ≡ answer_call b o
call-unasked a b None q e = refl
call-unasked a b (Some l) q e = absurd (cc)

callback-unasked : (a b : Bool) (v : BundleView) (link spare : Option ℕ) (q : CallAsk) → (if names_idle link v then if_spare spare q else None) ≡ None → answer_callback a v link spare ≡ answer_callback b v link spare
callback-unasked a b v link None q e = refl
callback-unasked a b v None (Some s) q e = refl
callback-unasked a b v (Some l) (Some s) q e = if-off (is_idle v l) a b _ _ (not-some (is_idle v l) q e)

and-on : {X : Type 0} (c i : Bool) (o : Option X) → c ≡ true → (if c && i then o else None) ≡ None → (if i then o else None) ≡ None
and-on true i o on e = e
and-on false i o on e = absurd (cc)

answer-unasked : (a b : Bool) (v : BundleView) (request : Request) → policy_asked v request ≡ None → answer_to a v request ≡ answer_to b v request
answer-unasked a b v (asked.Call offer) e = if-then v.calls (answer_call a (spare_link v)) (answer_call b (spare_link v)) _ (λ on. call-unasked a b (spare_link v) _ (if-on v.calls _ on e))
answer-unasked a b v (asked.Callback offer link) e =
    if-then v.callbacks (answer_callback a v link (spare_link v)) (answer_callback b v link (spare_link v)) _
    (λ on. callback-unasked a b v link (spare_link v) _ (and-on v.callbacks (names_idle link v) _ on e))
answer-unasked a b v (asked.Drop number) e = refl

request-unasked : (a b : Bool) (v : BundleView) (id : ℕ) (request : Request) (q : Requests) → policy_asked_for v q request ≡ None → takes_request a v id request q ≡ takes_request b v id request q
request-unasked a b v id request q e =
    if-else (keeps_own v q) _ _ _
    (λ off. ap (λ x. record { requests = wait_ended v.bundle q; out = answers_with id request x }) (answer-unasked a b v request (if-out (keeps_own v q) _ off e)))

message-unasked : (a b : Bool) (v : BundleView) (id : ℕ) (m : Message) (q : Requests) → asked_by_message v q m ≡ None → takes_message a v id m q ≡ takes_message b v id m q
message-unasked a b v id (message.Request request) q e = request-unasked a b v id request q e
message-unasked a b v id (message.Response response) q e = refl
message-unasked a b v id (message.StatusIndication status action) q e = refl
message-unasked a b v id (message.StatusResponse code) q e = refl

packet-unasked : (a b : Bool) (v : BundleView) (o : Option BapPacket) (q : Requests) → asked_by v q o ≡ None → takes_packet a v o q ≡ takes_packet b v o q
packet-unasked a b v None q e = refl
packet-unasked a b v (Some p) q e = message-unasked a b v p.id p.message q e

pub takes-unasked : (a b : Bool) (v : BundleView) (octets : List ℕ) (q : Requests) → asked_by v q (packet_of octets) ≡ None → takes a v octets q ≡ takes b v octets q
takes-unasked a b v octets q e = packet-unasked a b v (packet_of octets) q e
