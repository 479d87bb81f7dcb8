-- A packet of BAP is short.
use Rattle.std.proofs.Common.{◌≤◌, ◌+◌, ℕ, Bool, true, false, [], ◌∷◌, length, arith, length-append}
use Rattle.std.specs.Prelude.{Option, Some, None, ◌/◌, ◌%◌, nat_lt, if◌then◌else◌}
use Rattle.ppp_packet.specs.Options.{written}
use Rattle.ppp_bap.specs.BapPacket.{bap_octets, delta_option, message_octets}
use Rattle.ppp_bap.specs.PhoneDelta.{link_text, phone_delta}
use Rattle.ppp_bap.specs.declared.bap_packet.BapPacket.{BapPacket}
use Rattle.ppp_bap.specs.declared.bap_packet.Message.{Message}
use Rattle.ppp_bap.specs.declared.bap_packet.Message.TheVariants as message
use Rattle.ppp_bap.specs.declared.bap_packet.Request.TheVariants as asked
use Rattle.ppp_bap.specs.declared.bap_packet.Response.TheVariants as answered

text-short : (l : ℕ) → length (link_text l) ≤ 2
text-short l = by (nat_lt l 10) where
  by : (b : Bool) → length (if b then (0x30 + l) ∷ [] else (0x30 + l / 10) ∷ (0x30 + l % 10) ∷ []) ≤ 2
  by true = omega arith
  by false = omega arith

-- the sub-options that name a link
named-short : (l : ℕ) → length (written (phone_delta l)) ≤ 7
named-short l = omega (arith, text-short l, length-append (link_text l) [])

delta-short : (link : Option ℕ) → length (written (delta_option link ∷ [])) ≤ 9
delta-short None = omega arith
delta-short (Some l) = omega (arith, named-short l, length-append (written (phone_delta l)) [])

message-short : (m : Message) → length (message_octets m) ≤ 16
message-short (message.Request (asked.Call offer)) = omega arith
message-short (message.Request (asked.Callback offer link)) = omega (arith, delta-short link)
message-short (message.Request (asked.Drop number)) = omega arith
message-short (message.Response (answered.Call code None)) = omega arith
message-short (message.Response (answered.Call code (Some l))) = omega (arith, delta-short (Some l))
message-short (message.Response (answered.Callback code)) = omega arith
message-short (message.Response (answered.Drop code)) = omega arith
message-short (message.StatusIndication status action) = omega arith
message-short (message.StatusResponse code) = omega arith

pub packet-short : (p : BapPacket) → length (bap_octets p) ≤ 1500
packet-short p = omega (arith, message-short p.message)
