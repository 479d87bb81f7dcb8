-- Lists of Configuration Options in octets (RFC 1661 section 6).
use Rattle.std.specs.Prelude.{◌≡◌, ℕ, zero, suc, ◌+◌, ◌-◌, ◌||◌, nat_lt, if◌then◌else◌, nat_eq, List, [], ◌∷◌, ◌++◌, length, take, drop, Option, Some, None}
use Rattle.std.specs.Option.{option_map, unwrap_or}
use Rattle.ppp_packet.specs.ConfigOption.{ConfigOption}

-- an option is its Type, its Length, which counts Type and Length too, and its body
abbrev pub option_octets : ConfigOption → List ℕ
option_octets o = o.kind ∷ (2 + length o.body) ∷ o.body

-- the octets of options, one behind the other
abbrev pub written : List ConfigOption → List ℕ
written [] = []
written (o ∷ os) = option_octets o ++ written os

-- These octets are this list of options. A Length is one octet, so a body has at most 253 octets.
abbrev pub IsOptions : List ConfigOption → List ℕ → Type 0
IsOptions list bytes = bytes ≡ written list

-- The list that octets are, as a reader finds it: None where the lengths don't fit. The number bounds the options.
abbrev pub options_in : ℕ → List ℕ → Option (List ConfigOption)
options_in most [] = Some []
options_in zero (x ∷ xs) = None
options_in (suc most) (kind ∷ []) = None
options_in (suc most) (kind ∷ len ∷ rest) =
    if nat_lt len 2 || nat_lt (length rest) (len - 2)
    then None
    else option_map (λ os. record { kind = kind; body = take (len - 2) rest } ∷ os) (options_in most (drop (len - 2) rest))

unfoldable pub options_of : List ℕ → Option (List ConfigOption)
options_of bytes = options_in (length bytes) bytes

-- the list that octets hold that are a list of options
unfoldable pub list_of : List ℕ → List ConfigOption
list_of bytes = unwrap_or (options_of bytes) []

-- these octets are a list of options
abbrev pub HoldsOptions : List ℕ → Type 0
HoldsOptions bytes = IsOptions (list_of bytes) bytes

-- an option of this Type, with this body
abbrev pub option_with : ℕ → List ℕ → ConfigOption
option_with kind body = record { kind = kind; body = body }

-- the body of the first option of that Type
abbrev pub find_kind : ℕ → List ConfigOption → Option (List ℕ)
find_kind kind [] = None
find_kind kind (o ∷ os) = if nat_eq o.kind kind then Some o.body else find_kind kind os
