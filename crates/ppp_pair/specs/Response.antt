-- Responses as the two ends tell them apart (RFC 2125).
use Rattle.std.specs.Prelude.{Bool, true, false}
use Rattle.ppp_bap.specs.declared.bap_ask.BapAsk.{BapAsk}
use Rattle.ppp_bap.specs.declared.bap_ask.BapAsk.TheVariants.{Call, Callback, Drop}

-- the Types Call-Response, Callback-Response and Link-Drop-Query-Response
pub data ResponseType : Type 0 where
  CallResponse : ResponseType
  CallbackResponse : ResponseType
  DropResponse : ResponseType

-- the response codes Request-Ack, Request-Nak, Request-Rej and Request-Full-Nak
pub data ResponseCode : Type 0 where
  Ack : ResponseCode
  Nak : ResponseCode
  Rej : ResponseCode
  FullNak : ResponseCode

-- the Type of the response to a request
abbrev pub response_type : BapAsk → ResponseType
response_type Call = CallResponse
response_type Callback = CallbackResponse
response_type (Drop l) = DropResponse

abbrev pub same_type : ResponseType → ResponseType → Bool
same_type CallResponse CallResponse = true
same_type CallbackResponse CallbackResponse = true
same_type DropResponse DropResponse = true
same_type t u = false

abbrev pub same_code : ResponseCode → ResponseCode → Bool
same_code Ack Ack = true
same_code Nak Nak = true
same_code Rej Rej = true
same_code FullNak FullNak = true
same_code c d = false
