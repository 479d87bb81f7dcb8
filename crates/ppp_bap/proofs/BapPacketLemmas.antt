-- What is written is read again.
use Rattle.std.proofs.Common.{◌≡◌, ◌∙◌, ◌+◌, ◌-◌, ◌*◌, ◌/◌, ◌%◌, ℕ, suc, true, List, [], ◌∷◌, ◌++◌, refl, subst, ap, arith}
use Rattle.std.specs.Prelude.{Option, Some, None, IfSome, is_some, ◌&&◌}
use Rattle.std.specs.Option.{option_and_then, option_map, option_map_or}
use Rattle.std.proofs.lemmas.Bool.{agree_below_at, eqb-true, false≢true}
use Rattle.ppp_packet.specs.ConfigOption.{ConfigOption}
use Rattle.ppp_packet.specs.Options.{written}
use Rattle.ppp_packet.specs.Packet.{two_octets}
use Rattle.ppp_packet.proofs.OptionLemmas.{options_of-written}
use Rattle.ppp_packet.proofs.PacketLemmas.{raw_packet_of-packet_octets}
use Rattle.ppp_bap.specs.BapOption.{are_fit, fit_options_of, is_fit}
use Rattle.ppp_bap.specs.BapPacket.{bap_octets, callback_by, delta_option, message_octets, message_of, number_option, offer_of, offer_option, options_in, packet_of, type_of}
use Rattle.ppp_bap.specs.BundleView.{is_number}
use Rattle.ppp_bap.specs.LinkSet.{IsLink}
use Rattle.ppp_bap.specs.LinkType.{known_kinds}
use Rattle.ppp_bap.specs.PacketType.{read_type, type_number}
use Rattle.ppp_bap.specs.PhoneDelta.{link_in, link_named, link_of_text, link_text, phone_delta}
use Rattle.ppp_bap.specs.ReadAgain.{IsKnownOffer, IsPlain}
use Rattle.ppp_bap.specs.ResponseCode.{code_number, read_code}
use Rattle.ppp_bap.specs.declared.bap_packet.BapPacket.{BapPacket}
use Rattle.ppp_bap.specs.declared.bap_packet.Message.{Message}
use Rattle.ppp_bap.specs.declared.bap_packet.Message.TheVariants as message
use Rattle.ppp_bap.specs.declared.bap_packet.Offer.{Offer}
use Rattle.ppp_bap.specs.declared.bap_packet.Request.TheVariants as asked
use Rattle.ppp_bap.specs.declared.bap_packet.Response.TheVariants as answered
use Rattle.ppp_bap.specs.declared.packet_type.PacketType.{PacketType}
use Rattle.ppp_bap.specs.declared.packet_type.PacketType.TheVariants.{CallRequest, CallResponse, CallbackRequest, CallbackResponse, DropRequest, DropResponse, StatusIndication, StatusResponse}
use Rattle.ppp_bap.specs.declared.response_code.ResponseCode.{ResponseCode}
use Rattle.ppp_bap.specs.declared.response_code.ResponseCode.TheVariants.{Ack, Nak, Rej, FullNak}

type-read : (t : PacketType) → read_type (type_number t) ≡ Some t
type-read CallRequest = refl
type-read CallResponse = refl
type-read CallbackRequest = refl
type-read CallbackResponse = refl
type-read DropRequest = refl
type-read DropResponse = refl
type-read StatusIndication = refl
type-read StatusResponse = refl

code-read : (c : ResponseCode) → read_code (code_number c) ≡ c
code-read Ack = refl
code-read Nak = refl
code-read Rej = refl
code-read FullNak = refl

number_is : (n : ℕ) (o : Option ℕ) → is_number n o ≡ true → o ≡ Some n
number_is n None h = absurd (false≢true h)
number_is n (Some m) h = ap (λ (k : ℕ). Some k) (eqb-true m n h)

-- a link's number is the text of no other link
text-read : (l : ℕ) → IsLink l → link_of_text (link_text l) ≡ Some l
text-read l k =
    let e : suc (l - 1) ≡ l = omega (arith, k.least) in
    subst (λ n. link_of_text (link_text n) ≡ Some n) e
    (number_is (suc (l - 1)) _ (agree_below_at (λ n. is_number (suc n) (link_of_text (link_text (suc n)))) (λ n. true) 16 (l - 1) refl (omega (arith, k.least, k.most))))

found-read : (l : ℕ) → IsLink l → option_and_then link_in (Some (phone_delta l)) ≡ Some l
found-read l k = text-read l k

delta-read : (l : ℕ) → IsLink l → link_named (written (phone_delta l)) ≡ Some l
delta-read l k = rw (options_of-written (phone_delta l)) (found-read l k)

fit-read : (os : List ConfigOption) → are_fit os ≡ true → fit_options_of (written os) ≡ Some os
fit-read os fit = rw (options_of-written os, fit) refl

number-read : (n : ℕ) → n / 256 * 256 + n % 256 ≡ n
number-read n = omega arith

offer-read : (o : Offer) → IsKnownOffer o → offer_of (two_octets o.speed ++ o.kind.0 ∷ []) ≡ Some o
offer-read o known =
    let speed = number-read o.speed in
    ap (λ (s : ℕ). Some (record { speed = s; kind = known_kinds o.kind.0 })) speed ∙ ap (λ (k : ℕ). Some (record { speed = o.speed; kind = record { 0 = k } })) known

fit-delta : (link : Option ℕ) → is_fit (delta_option link) ≡ true
fit-delta None = ap is_some (options_of-written [])
fit-delta (Some l) = ap is_some (options_of-written (phone_delta l))

fit-delta-and : (link : Option ℕ) → is_fit (delta_option link) && true ≡ true
fit-delta-and link = ap (λ b. b && true) (fit-delta link)

callback-read : (found : Option Offer) (offer : Offer) (link : Option ℕ) (body : List ℕ) → found ≡ Some offer → link_named body ≡ link → callback_by found (Some body) ≡ Some (message.Request (asked.Callback offer link))
callback-read found offer link body e k = rw e (ap (λ (o : Option ℕ). Some (message.Request (asked.Callback offer o))) k)

link-read : (link : Option ℕ) → IfSome link IsLink → link_named (written (option_map_or phone_delta link [])) ≡ link
link-read None h = rw (options_of-written []) refl
link-read (Some l) h = delta-read l h

message-read : (m : Message) → IsPlain m → message_of (type_of m) (message_octets m) ≡ Some m
message-read (message.Request (asked.Call offer)) h =
    rw (fit-read (offer_option offer ∷ []) refl) (ap (option_map (λ (o : Offer). message.Request (asked.Call o))) (offer-read offer h))
message-read (message.Request (asked.Callback offer link)) h =
    rw (fit-read (offer_option offer ∷ delta_option link ∷ []) (fit-delta-and link)) (callback-read _ offer link _ (offer-read offer h.0) (link-read link h.1))
message-read (message.Request (asked.Drop number)) h =
    rw (fit-read (number_option number ∷ []) refl) (ap (λ (n : ℕ). Some (message.Request (asked.Drop n))) (number-read number))
message-read (message.Response (answered.Call code None)) h = rw (fit-read [] refl, code-read code) refl
message-read (message.Response (answered.Call code (Some l))) h =
    rw (fit-read (delta_option (Some l) ∷ []) (fit-delta-and (Some l)), code-read code) (ap (λ (o : Option ℕ). Some (message.Response (answered.Call code o))) (link-read (Some l) h))
message-read (message.Response (answered.Callback code)) h = rw (fit-read [] refl, code-read code) refl
message-read (message.Response (answered.Drop code)) h = rw (fit-read [] refl, code-read code) refl
message-read (message.StatusIndication status action) h = rw (fit-read (options_in (message.StatusIndication status action)) refl) refl
message-read (message.StatusResponse code) h = rw (fit-read [] refl, code-read code) refl

pub packet-read : (p : BapPacket) (padding : List ℕ) → IsPlain p.message → packet_of (bap_octets p ++ padding) ≡ Some p
unfolding packet_of
packet-read p padding h =
    rw (raw_packet_of-packet_octets (type_number (type_of p.message)) p.id (message_octets p.message) padding, type-read (type_of p.message), message-read p.message h) refl
