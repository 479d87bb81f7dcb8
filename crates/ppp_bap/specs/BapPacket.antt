-- BAP packets (RFC 2125): what they say, and how they are written and read.
use Rattle.std.specs.Prelude.{ℕ, ◌+◌, ◌*◌, if◌then◌else◌, List, [], ◌∷◌, ◌++◌, Option, Some, None}
use Rattle.std.specs.Option.{option_and_then, option_map, option_map_or, option_to_list}
use Rattle.ppp_packet.specs.ConfigOption.{ConfigOption}
use Rattle.ppp_packet.specs.Options.{find_kind, option_with, written}
use Rattle.ppp_packet.specs.Packet.{RawPacket, packet_octets, raw_packet_of, two_octets}
use Rattle.ppp_bap.specs.BapOption.{fit_options_of, kind_number}
use Rattle.ppp_bap.specs.LinkType.{known_kinds}
use Rattle.ppp_bap.specs.PacketType.{has_code, read_type, type_number}
use Rattle.ppp_bap.specs.PhoneDelta.{link_named, phone_delta}
use Rattle.ppp_bap.specs.ResponseCode.{code_number, read_code}
use Rattle.ppp_bap.specs.declared.bap_option.BapOption.TheVariants.{LinkType, PhoneDelta, LinkDiscriminator, CallStatus}
use Rattle.ppp_bap.specs.declared.bap_packet.BapPacket.{BapPacket}
use Rattle.ppp_bap.specs.declared.bap_packet.Message.{Message}
use Rattle.ppp_bap.specs.declared.bap_packet.Message.TheVariants as message
use Rattle.ppp_bap.specs.declared.bap_packet.Offer.{Offer}
use Rattle.ppp_bap.specs.declared.bap_packet.Request.TheVariants as asked
use Rattle.ppp_bap.specs.declared.bap_packet.Response.TheVariants as answered
use Rattle.ppp_bap.specs.declared.packet_type.PacketType.{PacketType}
use Rattle.ppp_bap.specs.declared.packet_type.PacketType.TheVariants.{CallRequest, CallResponse, CallbackRequest, CallbackResponse, DropRequest, DropResponse, StatusIndication, StatusResponse}
use Rattle.ppp_bap.specs.declared.response_code.ResponseCode.{ResponseCode}

-- ---- writing

abbrev pub type_of : Message → PacketType
type_of (message.Request (asked.Call offer)) = CallRequest
type_of (message.Request (asked.Callback offer link)) = CallbackRequest
type_of (message.Request (asked.Drop number)) = DropRequest
type_of (message.Response (answered.Call code link)) = CallResponse
type_of (message.Response (answered.Callback code)) = CallbackResponse
type_of (message.Response (answered.Drop code)) = DropResponse
type_of (message.StatusIndication status action) = StatusIndication
type_of (message.StatusResponse code) = StatusResponse

-- the response code, where there is one
abbrev pub code_of : Message → Option ResponseCode
code_of (message.Request request) = None
code_of (message.Response (answered.Call code link)) = Some code
code_of (message.Response (answered.Callback code)) = Some code
code_of (message.Response (answered.Drop code)) = Some code
code_of (message.StatusIndication status action) = None
code_of (message.StatusResponse code) = Some code

abbrev pub offer_option : Offer → ConfigOption
offer_option o = option_with (kind_number LinkType) (two_octets o.speed ++ o.kind.0 ∷ [])

-- a Phone-Delta that names a link, or an empty one
abbrev pub delta_option : Option ℕ → ConfigOption
delta_option link = option_with (kind_number PhoneDelta) (written (option_map_or phone_delta link []))

abbrev pub number_option : ℕ → ConfigOption
number_option number = option_with (kind_number LinkDiscriminator) (two_octets number)

abbrev pub options_in : Message → List ConfigOption
options_in (message.Request (asked.Call offer)) = offer_option offer ∷ []
options_in (message.Request (asked.Callback offer link)) = offer_option offer ∷ delta_option link ∷ []
options_in (message.Request (asked.Drop number)) = number_option number ∷ []
options_in (message.Response (answered.Call code None)) = []
options_in (message.Response (answered.Call code (Some link))) = delta_option (Some link) ∷ []
options_in (message.Response (answered.Callback code)) = []
options_in (message.Response (answered.Drop code)) = []
options_in (message.StatusIndication status action) = option_with (kind_number CallStatus) (status ∷ action ∷ []) ∷ []
options_in (message.StatusResponse code) = []

-- a packet is a Type, an Identifier, a Length, a response code in some Types, and options
abbrev pub message_octets : Message → List ℕ
message_octets m = option_to_list (option_map code_number (code_of m)) ++ written (options_in m)

abbrev pub bap_octets : BapPacket → List ℕ
bap_octets p = packet_octets (type_number (type_of p.message)) p.id (message_octets p.message)

-- ---- reading: the first option of a Type counts

abbrev pub offer_of : List ℕ → Option Offer
offer_of (high ∷ low ∷ bits ∷ []) = Some (record { speed = high * 256 + low; kind = known_kinds bits })
offer_of body = None

abbrev pub number_of : List ℕ → Option ℕ
number_of (high ∷ low ∷ []) = Some (high * 256 + low)
number_of body = None

abbrev pub status_of : List ℕ → Option Message
status_of (status ∷ action ∷ []) = Some (message.StatusIndication status action)
status_of body = None

abbrev pub offer_in : List ConfigOption → Option Offer
offer_in os = option_and_then offer_of (find_kind (kind_number LinkType) os)

abbrev pub number_in : List ConfigOption → Option ℕ
number_in os = option_and_then number_of (find_kind (kind_number LinkDiscriminator) os)

abbrev pub status_in : List ConfigOption → Option Message
status_in os = option_and_then status_of (find_kind (kind_number CallStatus) os)

abbrev pub link_in : List ConfigOption → Option ℕ
link_in os = option_and_then link_named (find_kind (kind_number PhoneDelta) os)

-- a Callback-Request has to have both options
abbrev pub callback_by : Option Offer → Option (List ℕ) → Option Message
callback_by (Some offer) (Some delta) = Some (message.Request (asked.Callback offer (link_named delta)))
callback_by offer delta = None

abbrev pub callback_in : List ConfigOption → Option Message
callback_in os = callback_by (offer_in os) (find_kind (kind_number PhoneDelta) os)

abbrev pub asking : PacketType → List ConfigOption → Option Message
asking CallRequest os = option_map (λ offer. message.Request (asked.Call offer)) (offer_in os)
asking CallbackRequest os = callback_in os
asking DropRequest os = option_map (λ number. message.Request (asked.Drop number)) (number_in os)
asking StatusIndication os = status_in os
asking t os = None

abbrev pub answering : PacketType → ResponseCode → List ConfigOption → Option Message
answering CallResponse code os = Some (message.Response (answered.Call code (link_in os)))
answering CallbackResponse code os = Some (message.Response (answered.Callback code))
answering DropResponse code os = Some (message.Response (answered.Drop code))
answering StatusResponse code os = Some (message.StatusResponse code)
answering t code os = None

-- behind the response code
abbrev pub answer_in : PacketType → List ℕ → Option Message
answer_in t [] = None
answer_in t (code ∷ rest) = option_and_then (answering t (read_code code)) (fit_options_of rest)

abbrev pub message_of : PacketType → List ℕ → Option Message
message_of t octets = if has_code t then answer_in t octets else option_and_then (asking t) (fit_options_of octets)

abbrev pub packet_by : ℕ → Message → BapPacket
packet_by id m = record { id = id; message = m }

abbrev pub raw_message : RawPacket → Option Message
raw_message p = option_and_then (λ t. message_of t p.rest) (read_type p.code)

abbrev pub packet_in : RawPacket → Option BapPacket
packet_in p = option_map (packet_by p.id) (raw_message p)

unfoldable pub packet_of : List ℕ → Option BapPacket
packet_of octets = option_and_then packet_in (raw_packet_of octets)
