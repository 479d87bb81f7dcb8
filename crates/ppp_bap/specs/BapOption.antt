-- The options of BAP packets (RFC 2125).
use Rattle.std.specs.Prelude.{ℕ, Bool, true, ◌==◌, if◌then◌else◌, List, length, Option, Some, None, is_some}
use Rattle.std.specs.List.{list_all}
use Rattle.std.specs.Option.{option_and_then}
use Rattle.ppp_packet.specs.ConfigOption.{ConfigOption}
use Rattle.ppp_packet.specs.Options.{options_of}
use Rattle.ppp_bap.specs.declared.bap_option.BapOption.{BapOption}
use Rattle.ppp_bap.specs.declared.bap_option.BapOption.TheVariants.{LinkType, PhoneDelta, NoPhoneNumber, Reason, LinkDiscriminator, CallStatus}

abbrev pub kind_number : BapOption → ℕ
kind_number LinkType = 1
kind_number PhoneDelta = 2
kind_number NoPhoneNumber = 3
kind_number Reason = 4
kind_number LinkDiscriminator = 5
kind_number CallStatus = 6

abbrev pub read_kind : ℕ → Option BapOption
read_kind n =
    if n == 1 then Some LinkType
    else if n == 2 then Some PhoneDelta
    else if n == 3 then Some NoPhoneNumber
    else if n == 4 then Some Reason
    else if n == 5 then Some LinkDiscriminator
    else if n == 6 then Some CallStatus
    else None

-- The bodies that an option of that Type may have. A Phone-Delta's is a list of sub-options, of the same form.
abbrev pub fits : Option BapOption → List ℕ → Bool
fits (Some LinkType) body = length body == 3
fits (Some PhoneDelta) body = is_some (options_of body)
fits (Some NoPhoneNumber) body = length body == 0
fits (Some Reason) body = true
fits (Some LinkDiscriminator) body = length body == 2
fits (Some CallStatus) body = length body == 2
fits None body = true

abbrev pub is_fit : ConfigOption → Bool
is_fit o = fits (read_kind o.kind) o.body

abbrev pub are_fit : List ConfigOption → Bool
are_fit os = list_all is_fit os

-- octets as options that are fit
abbrev pub if_fit : List ConfigOption → Option (List ConfigOption)
if_fit os = if are_fit os then Some os else None

abbrev pub fit_options_of : List ℕ → Option (List ConfigOption)
fit_options_of octets = option_and_then if_fit (options_of octets)
