-- IPV6CP's table: the Interface-Identifier (RFC 5072 section 4.1).
use Rattle.std.specs.Prelude.{ℕ, ◌+◌, Bool, true, false, ◌&&◌, ◌==◌, if◌then◌else◌, List, [], ◌∷◌, length}
use Rattle.std.specs.Bool.{then_some}
use Rattle.ppp_packet.specs.ConfigOption.{ConfigOption}
use Rattle.ppp_packet.specs.declared.options.TheConstants.{OPTION_HEADER}
use Rattle.ppp_options.specs.declared.number.TheConstants.{OCTETS_U64}
use Rattle.ppp_options.specs.Differs.{Differs}
use Rattle.ppp_options.specs.Number.{number, eight_octets, is_new, number_of, pick64}
use Rattle.ppp_options.specs.Rule.{Rule}
use Rattle.ppp_ncp.specs.declared.ipv6_table.TheConstants.{IDENTIFIER}

-- a list's identifier, or 0
abbrev pub identifier_of : List ConfigOption → ℕ
identifier_of list = number_of IDENTIFIER OCTETS_U64 list

abbrev pub is_zero : List ℕ → Bool
is_zero body = (length body == OCTETS_U64) && (number body == 0)

-- Where both ends have 0, the suggestion is the option as it came, so that it is rejected; else one is drawn.
abbrev pub better_identifier : ℕ → List ℕ → ℕ → List ℕ
better_identifier own body word = if is_zero body && (own == 0) then body else eight_octets (pick64 word own)

abbrev pub identifier_rule : ℕ → Bool → Rule
identifier_rule own ask = record {
  kind = IDENTIFIER;
  most = OPTION_HEADER + OCTETS_U64;
  required = false;
  first = λ word. then_some ask (eight_octets own);
  is_sent = λ body. length body == OCTETS_U64;
  is_set = λ body. true;
  is_known = λ body. true;
  is_good = λ mine. is_new OCTETS_U64 (identifier_of mine);
  better = λ mine body word. better_identifier (identifier_of mine) body word;
  after = λ last nak word. if is_new OCTETS_U64 0 nak then nak else last;
}

abbrev pub ipv6_rules : ℕ → Bool → List Rule
ipv6_rules own ask = identifier_rule own ask ∷ []

-- Two lists fit where they don't have the same identifier.
abbrev pub FitsIdentifier : List ConfigOption → List ConfigOption → Type 0
FitsIdentifier = Differs IDENTIFIER OCTETS_U64
