-- Which packets are read again as they were written: their kinds of link are known, and their links are links.
use Rattle.std.specs.Prelude.{◌≡◌, ⊤, bit_and, IfSome}
use Rattle.ppp_bap.specs.LinkSet.{IsLink}
use Rattle.ppp_bap.specs.declared.bap_packet.Message.{Message}
use Rattle.ppp_bap.specs.declared.bap_packet.Message.TheVariants as message
use Rattle.ppp_bap.specs.declared.bap_packet.Offer.{Offer}
use Rattle.ppp_bap.specs.declared.bap_packet.Request.TheVariants as asked
use Rattle.ppp_bap.specs.declared.bap_packet.Response.TheVariants as answered

abbrev pub IsKnownOffer : Offer → Type 0
IsKnownOffer o = bit_and o.kind.0 0x1f ≡ o.kind.0

abbrev pub IsPlain : Message → Type 0
IsPlain (message.Request (asked.Call offer)) = IsKnownOffer offer
IsPlain (message.Request (asked.Callback offer link)) = IsKnownOffer offer × IfSome link IsLink
IsPlain (message.Request (asked.Drop number)) = ⊤
IsPlain (message.Response (answered.Call code link)) = IfSome link IsLink
IsPlain (message.Response (answered.Callback code)) = ⊤
IsPlain (message.Response (answered.Drop code)) = ⊤
IsPlain (message.StatusIndication status action) = ⊤
IsPlain (message.StatusResponse code) = ⊤
