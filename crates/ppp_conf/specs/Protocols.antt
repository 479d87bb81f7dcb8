-- Sets of network protocols, in the order `ip`, `ipv6`, `osi`, `mpls`.
use Rattle.std.specs.Prelude.{ℕ, Bool, true, false, if◌then◌else◌, List, [], ◌∷◌, get_or, set, Option, Some, None, option_and_then, codes, bytes_eq}
use Rattle.toml.specs.Data.{Items, no_items, item, as_str}

abbrev pub no_protocols : List Bool
no_protocols = false ∷ false ∷ false ∷ false ∷ []

-- the place of a name in the order
abbrev pub place_of : List ℕ → Option ℕ
place_of name =
    if bytes_eq name (codes "ip") then Some 0
    else if bytes_eq name (codes "ipv6") then Some 1
    else if bytes_eq name (codes "osi") then Some 2
    else if bytes_eq name (codes "mpls") then Some 3
    else None

-- the set with one more protocol: there is none where it has it already
abbrev pub with_place : List Bool → ℕ → Option (List Bool)
with_place protocols place = if get_or protocols place true then None else Some (set protocols place true)

-- the set with the protocol that a value names: there is none where it names no further one
abbrev pub with_name : List Bool → Option (List ℕ) → Option (List Bool)
with_name protocols None = None
with_name protocols (Some name) = option_and_then (with_place protocols) (place_of name)

-- the set with the protocols that an array names, each once
unfoldable pub with_names : List Bool → Items → Option (List Bool)
with_names protocols no_items = Some protocols
with_names protocols (item value items) =
    option_and_then (λ more. with_names more items) (with_name protocols (as_str value))
