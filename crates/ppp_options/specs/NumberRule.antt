-- The row of a number of four octets that two ends are not to have alike, as a Magic-Number (RFC 1661 section 6.4).
use Rattle.std.specs.Prelude.{ℕ, ◌+◌, Bool, true, List, Option}
use Rattle.ppp_packet.specs.declared.options.TheConstants.{OPTION_HEADER}
use Rattle.ppp_options.specs.declared.number.TheConstants.{OCTETS_U32}
use Rattle.ppp_auto.specs.Taken.{four_octets}
use Rattle.ppp_options.specs.Number.{is_new, number_of, number_taken, pick}
use Rattle.ppp_options.specs.Rule.{Rule}

-- A number is good that is neither 0 nor the own, and else one is drawn.
abbrev pub number_rule : ℕ → Bool → (ℕ → Option (List ℕ)) → Rule
number_rule kind required first = record {
  kind = kind;
  most = OPTION_HEADER + OCTETS_U32;
  required = required;
  first = first;
  is_sent = is_new OCTETS_U32 0;
  is_set = λ body. true;
  is_known = λ body. true;
  is_good = λ own. is_new OCTETS_U32 (number_of kind OCTETS_U32 own);
  better = λ own body word. four_octets (pick word (number_of kind OCTETS_U32 own));
  after = number_taken;
}
