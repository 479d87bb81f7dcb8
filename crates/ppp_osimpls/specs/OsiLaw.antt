-- OSINLCP's row, and MPLSCP's none, owe what rows owe.
use Rattle.std.proofs.Common.{◌≡◌, ℕ, ◌+◌, ◌≤◌, true, List, [], ◌∷◌, length, refl, arith}
use Rattle.std.specs.Prelude.{if◌then◌else◌, ◌==◌, Some, None}
use Rattle.std.proofs.lemmas.Bool.Decides.{nat_tests}
use Rattle.ppp_options.specs.Rule.{IsRule}
use Rattle.ppp_options.specs.Rules.{IsTable}
use Rattle.ppp_osimpls.specs.Alignment.{is_good_body, is_setting}
use Rattle.ppp_osimpls.specs.OsiTable.{alignment_rule, osi_rules}
use Rattle.ppp_osimpls.specs.MplsTable.{mpls_rules}

alignment-first : (align : ℕ) (body : List ℕ) → is_setting align ≡ true →
    (if align == 0 then None else Some (align ∷ [])) ≡ Some body → is_good_body body ≡ true
alignment-first align body set e = grind (arith, nat_tests)

alignment-after : (last nak : List ℕ) → is_good_body last ≡ true →
    is_good_body (if is_good_body nak then nak else last) ≡ true
alignment-after last nak h = grind (arith, nat_tests)

alignment-long : (last nak : List ℕ) → is_good_body last ≡ true →
    length (if is_good_body nak then nak else last) ≡ length last
alignment-long last nak h = grind (arith, nat_tests)

alignment-short : (body : List ℕ) → is_good_body body ≡ true → 2 + length body ≤ 3
alignment-short body h = grind (arith, nat_tests)

is_rule : (align : ℕ) → is_setting align ≡ true → IsRule (alignment_rule align)
is_rule align set = record {
  first_sent = λ word body e. alignment-first align body set e;
  first_set = λ word body e. refl;
  first_there = λ e word. cc;
  after_sent = λ last nak word h. alignment-after last nak h;
  after_set = λ last nak word h k. refl;
  after_long = λ last nak word h. alignment-long last nak h;
  sent_short = alignment-short;
  good_short = λ own body known h. alignment-short body h;
  better_short = λ own body word. omega arith;
}

pub osi_is_table : (align : ℕ) → is_setting align ≡ true → IsTable (osi_rules align)
osi_is_table align set = record { ascending = refl; each = (is_rule align set, tt); fits = omega arith; few = omega arith }

pub mpls_is_table : IsTable mpls_rules
mpls_is_table = record { ascending = refl; each = tt; fits = omega arith; few = omega arith }
