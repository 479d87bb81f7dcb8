-- What stands behind a packet's header: options or data.
use Rattle.std.specs.Prelude.{ℕ, Bool, true, false, if◌then◌else◌, List, [], ◌∷◌, ◌++◌, Option, Some, None, codes}
use Rattle.std.specs.Fmt.{decimal}
use Rattle.std.specs.List.{flat_map}
use Rattle.hex.specs.Hex.{encode_lower}
use Rattle.ppp_packet.specs.ConfigOption.{ConfigOption}
use Rattle.ppp_packet.specs.Options.{options_of}
use Rattle.ppp_packet.specs.declared.code.Code.{Code}
use Rattle.ppp_packet.specs.declared.code.Code.TheVariants.{ConfigureRequest, ConfigureAck, ConfigureNak, ConfigureReject, TerminateRequest, TerminateAck, CodeReject, ProtocolReject, EchoRequest, EchoReply, DiscardRequest}

-- packets of this code have options (RFC 1661 sections 5.1 to 5.4)
abbrev pub has_options : Option Code → Bool
has_options None = false
has_options (Some ConfigureRequest) = true
has_options (Some ConfigureAck) = true
has_options (Some ConfigureNak) = true
has_options (Some ConfigureReject) = true
has_options (Some TerminateRequest) = false
has_options (Some TerminateAck) = false
has_options (Some CodeReject) = false
has_options (Some ProtocolReject) = false
has_options (Some EchoRequest) = false
has_options (Some EchoReply) = false
has_options (Some DiscardRequest) = false

-- ` KIND=BODY`, with the kind in decimal
abbrev pub option_text : ConfigOption → List ℕ
option_text o = codes " " ++ decimal o.kind ++ codes "=" ++ encode_lower o.body

-- the options that were read, or nothing where none were
abbrev pub read_text : Option (List ConfigOption) → List ℕ
read_text None = []
read_text (Some options) = flat_map option_text options

abbrev pub options_text : List ℕ → List ℕ
options_text octets = read_text (options_of octets)

-- ` data HEX`, or nothing where there are no data
abbrev pub data_text : List ℕ → List ℕ
data_text [] = []
data_text (x ∷ xs) = codes " data " ++ encode_lower (x ∷ xs)

abbrev pub rest_text : Option Code → List ℕ → List ℕ
rest_text code octets = if has_options code then options_text octets else data_text octets
