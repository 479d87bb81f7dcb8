-- OSINLCP's table (RFC 1377 section 3.1): its one row.
use Rattle.std.specs.Prelude.{ℕ, ◌+◌, true, false, ◌==◌, if◌then◌else◌, List, [], ◌∷◌, Some, None}
use Rattle.ppp_packet.specs.declared.options.TheConstants.{OPTION_HEADER}
use Rattle.ppp_options.specs.Rule.{Rule}
use Rattle.ppp_osimpls.specs.Alignment.{is_good_body}
use Rattle.ppp_osimpls.specs.declared.osi_table.TheConstants.{ALIGNMENT, ALIGNMENT_OCTETS}

abbrev pub alignment_rule : ℕ → Rule
alignment_rule align = record {
  kind = ALIGNMENT;
  most = OPTION_HEADER + ALIGNMENT_OCTETS;
  required = false;
  first = λ word. if align == 0 then None else Some (align ∷ []);
  is_sent = is_good_body;
  is_set = λ body. true;
  is_known = λ body. true;
  is_good = λ own. is_good_body;
  better = λ own body word. 1 ∷ [];
  after = λ last nak word. if is_good_body nak then nak else last;
}

abbrev pub osi_rules : ℕ → List Rule
osi_rules align = alignment_rule align ∷ []
