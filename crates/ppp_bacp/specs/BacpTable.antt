-- BACP's table: the Favored-Peer number (RFC 2125), which each list has to have.
use Rattle.std.specs.Prelude.{ℕ, ◌^◌, Bool, true, not, ◌&&◌, ◌==◌, nat_lt, List, [], ◌∷◌, Some}
use Rattle.ppp_packet.specs.ConfigOption.{ConfigOption}
use Rattle.ppp_auto.specs.Taken.{four_octets}
use Rattle.ppp_options.specs.Differs.{Differs}
use Rattle.ppp_options.specs.declared.number.TheConstants.{OCTETS_U32}
use Rattle.ppp_options.specs.NumberRule.{number_rule}
use Rattle.ppp_options.specs.Rule.{Rule}
use Rattle.ppp_bacp.specs.declared.bacp_table.TheConstants.{FAVORED_PEER}

-- what an end is set to: a number of 32 bits that isn't 0
abbrev pub is_favored : ℕ → Bool
is_favored n = not (n == 0) && nat_lt n (2 ^ 32)

abbrev pub favored_rule : ℕ → Rule
favored_rule favored = number_rule FAVORED_PEER true (λ word. Some (four_octets favored))

abbrev pub bacp_rules : ℕ → List Rule
bacp_rules favored = favored_rule favored ∷ []

-- Of two Favored-Peer numbers the lower one's end is favoured (RFC 2125).
abbrev pub favours : ℕ → ℕ → Bool
favours mine peer = nat_lt mine peer

-- Two lists fit where they don't have the same number.
abbrev pub FitsFavored : List ConfigOption → List ConfigOption → Type 0
FitsFavored = Differs FAVORED_PEER OCTETS_U32
