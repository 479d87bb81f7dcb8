-- The Types of BAP packets (RFC 2125).
use Rattle.std.specs.Prelude.{ℕ, Bool, true, false, ◌==◌, if◌then◌else◌, Option, Some, None}
use Rattle.ppp_bap.specs.declared.packet_type.PacketType.{PacketType}
use Rattle.ppp_bap.specs.declared.packet_type.PacketType.TheVariants.{CallRequest, CallResponse, CallbackRequest, CallbackResponse, DropRequest, DropResponse, StatusIndication, StatusResponse}

abbrev pub type_number : PacketType → ℕ
type_number CallRequest = 1
type_number CallResponse = 2
type_number CallbackRequest = 3
type_number CallbackResponse = 4
type_number DropRequest = 5
type_number DropResponse = 6
type_number StatusIndication = 7
type_number StatusResponse = 8

abbrev pub read_type : ℕ → Option PacketType
read_type n =
    if n == 1 then Some CallRequest
    else if n == 2 then Some CallResponse
    else if n == 3 then Some CallbackRequest
    else if n == 4 then Some CallbackResponse
    else if n == 5 then Some DropRequest
    else if n == 6 then Some DropResponse
    else if n == 7 then Some StatusIndication
    else if n == 8 then Some StatusResponse
    else None

-- a response has a response code before its options
abbrev pub has_code : PacketType → Bool
has_code CallRequest = false
has_code CallResponse = true
has_code CallbackRequest = false
has_code CallbackResponse = true
has_code DropRequest = false
has_code DropResponse = true
has_code StatusIndication = false
has_code StatusResponse = true
