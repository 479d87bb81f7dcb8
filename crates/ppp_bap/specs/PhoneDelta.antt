-- Telephone numbers (RFC 2125, Phone-Delta), which name links here: a link's number is its own in decimal.
use Rattle.std.specs.Prelude.{ℕ, ◌+◌, ◌/◌, ◌%◌, Bool, nat_eq, nat_lt, if◌then◌else◌, List, [], ◌∷◌, length, Option}
use Rattle.std.specs.List.{find}
use Rattle.std.specs.Option.{option_and_then}
use Rattle.std.specs.Cmp.Lexicographic.{pointwise}
use Rattle.ppp_packet.specs.ConfigOption.{ConfigOption}
use Rattle.ppp_packet.specs.Options.{find_kind, option_with, options_of}
use Rattle.ppp_bap.specs.LinkSet.{link_numbers}
use Rattle.ppp_bap.specs.declared.phone_delta.SubOption.{SubOption}
use Rattle.ppp_bap.specs.declared.phone_delta.SubOption.TheVariants.{UniqueDigits, SubscriberNumber}

-- the Types of sub-options
abbrev pub sub_kind : SubOption → ℕ
sub_kind UniqueDigits = 1
sub_kind SubscriberNumber = 2

-- a number below 100 in decimal digits, 0 as 30
abbrev pub link_text : ℕ → List ℕ
link_text l = if nat_lt l 10 then (0x30 + l) ∷ [] else (0x30 + l / 10) ∷ (0x30 + l % 10) ∷ []

abbrev pub is_text_of : List ℕ → ℕ → Bool
is_text_of digits l = pointwise nat_eq (link_text l) digits

abbrev pub link_of_text : List ℕ → Option ℕ
link_of_text digits = find (is_text_of digits) link_numbers

-- how many digits it has, and then these
abbrev pub phone_delta : ℕ → List ConfigOption
phone_delta l = option_with (sub_kind UniqueDigits) (length (link_text l) ∷ []) ∷ option_with (sub_kind SubscriberNumber) (link_text l) ∷ []

-- the link that the first number in a Phone-Delta names
abbrev pub link_in : List ConfigOption → Option ℕ
link_in parts = option_and_then link_of_text (find_kind (sub_kind SubscriberNumber) parts)

abbrev pub link_named : List ℕ → Option ℕ
link_named body = option_and_then link_in (options_of body)
