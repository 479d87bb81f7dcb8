-- IPCP's table: the IP-Address (RFC 1332 section 3.3).
use Rattle.std.specs.Prelude.{ℕ, ◌+◌, Bool, true, false, not, ◌&&◌, ◌||◌, ◌==◌, if◌then◌else◌, List, [], ◌∷◌, length, Option, Some, None, is_some, unwrap_or}
use Rattle.ppp_packet.specs.declared.options.TheConstants.{OPTION_HEADER}
use Rattle.ppp_options.specs.declared.number.TheConstants.{OCTETS_U32}
use Rattle.ppp_auto.specs.Taken.{four_octets}
use Rattle.ppp_options.specs.Number.{number}
use Rattle.ppp_options.specs.Rule.{Rule}
use Rattle.ppp_ncp.specs.declared.ipcp_table.TheConstants.{ADDRESS}

-- an address to give is none, or one that isn't 0.0.0.0
abbrev pub is_give : Option ℕ → Bool
is_give None = true
is_give (Some address) = not (address == 0)

abbrev pub is_address : List ℕ → Bool
is_address body = (length body == OCTETS_U32) && not (number body == 0)

-- the address 0.0.0.0, which asks for one
abbrev pub is_request : List ℕ → Bool
is_request body = (length body == OCTETS_U32) && (number body == 0)

-- A peer that asks for an address gets the one to give; without one the request is unknown.
abbrev pub address_rule : ℕ → Option ℕ → Rule
address_rule own give = record {
  kind = ADDRESS;
  most = OPTION_HEADER + OCTETS_U32;
  required = false;
  first = λ word. Some (four_octets own);
  is_sent = λ body. length body == OCTETS_U32;
  is_set = λ body. true;
  is_known = λ body. is_some give || not (is_request body);
  is_good = λ mine. is_address;
  better = λ mine body word. four_octets (unwrap_or give 0);
  after = λ last nak word. if (own == 0) && is_address nak then nak else last;
}

abbrev pub ipcp_rules : ℕ → Option ℕ → List Rule
ipcp_rules own give = address_rule own give ∷ []
