-- Numbers in the bodies of options, the highest octet first, and numbers that are drawn.
use Rattle.std.specs.Prelude.{ℕ, ◌+◌, ◌*◌, ◌/◌, ◌%◌, ◌^◌, Bool, not, ◌&&◌, ◌==◌, nat_le, if◌then◌else◌, List, [], ◌∷◌, length, Option, Some, None}
use Rattle.std.specs.Option.{option_map}
use Rattle.ppp_options.specs.declared.number.TheConstants.{OCTETS_U32}
use Rattle.ppp_auto.specs.Taken.{four_octets}
use Rattle.ppp_packet.specs.ConfigOption.{ConfigOption}
use Rattle.ppp_packet.specs.Options.{find_kind}

-- the number in octets
abbrev pub number_after : ℕ → List ℕ → ℕ
number_after n [] = n
number_after n (x ∷ xs) = number_after (n * 256 + x) xs

abbrev pub number : List ℕ → ℕ
number octets = number_after 0 octets

-- whether a body has that many octets, whose number is in a range
abbrev pub is_within : ℕ → ℕ → ℕ → List ℕ → Bool
is_within size least most body = (length body == size) && nat_le least (number body) && nat_le (number body) most

-- a number in eight octets
abbrev pub eight_octets : ℕ → List ℕ
eight_octets n =
    (n / 2 ^ 56 % 256) ∷ (n / 2 ^ 48 % 256) ∷ (n / 2 ^ 40 % 256) ∷ (n / 2 ^ 32 % 256)
    ∷ (n / 2 ^ 24 % 256) ∷ (n / 2 ^ 16 % 256) ∷ (n / 2 ^ 8 % 256) ∷ (n % 256) ∷ []

-- the body of the first option of that Type and of right size
abbrev pub body_of : ℕ → ℕ → List ConfigOption → Option (List ℕ)
body_of kind size [] = None
body_of kind size (o ∷ os) = if (o.kind == kind) && (length o.body == size) then Some o.body else body_of kind size os

abbrev pub number_or_zero : Option (List ℕ) → ℕ
number_or_zero None = 0
number_or_zero (Some body) = number body

-- the number of a list's option of that Type and size, or 0
abbrev pub number_of : ℕ → ℕ → List ConfigOption → ℕ
number_of kind size list = number_or_zero (body_of kind size list)

-- the number of a list's first option of that Type, if it has one
abbrev pub number_in : ℕ → List ConfigOption → Option ℕ
number_in kind list = option_map number (find_kind kind list)

-- a number that is neither 0 nor the one to avoid
abbrev pub is_free : ℕ → ℕ → Bool
is_free avoid n = not (n == 0) && not (n == avoid)

-- a body of that many octets with such a number
abbrev pub is_new : ℕ → ℕ → List ℕ → Bool
is_new size avoid body = (length body == size) && is_free avoid (number body)

-- the first such number from one on, below a bound: it is among three
abbrev pub pick_from : ℕ → ℕ → ℕ → ℕ
pick_from bound first avoid =
    if is_free avoid first then first
    else if is_free avoid ((first + 1) % bound) then (first + 1) % bound
    else (first + 2) % bound

-- drawn from a word, in 32 bits and in 64
unfoldable pub pick : ℕ → ℕ → ℕ
pick word avoid = pick_from (2 ^ 32) (word % 2 ^ 32) avoid

unfoldable pub pick64 : ℕ → ℕ → ℕ
pick64 word avoid = pick_from (2 ^ 64) (word % 2 ^ 64) avoid

-- What stands after a Nak of a number that two ends are not to have alike: the other number, where it is neither 0 nor
-- the last one, and else a drawn one. A body of another length changes nothing.
abbrev pub number_taken : List ℕ → List ℕ → ℕ → List ℕ
number_taken last nak word =
    if not (length nak == OCTETS_U32) then last
    else if is_free (number last) (number nak) then nak
    else four_octets (pick word (number last))
