-- Such a row owes what rows owe.
use Rattle.std.proofs.Common.{◌≡◌, ℕ, Bool, true, List, length, refl, arith}
use Rattle.std.specs.Prelude.{◌==◌, not, if◌then◌else◌, Option, Some, is_some}
use Rattle.std.proofs.lemmas.Bool.Decides.{nat_tests}
use Rattle.ppp_auto.specs.Taken.{four_octets}
use Rattle.ppp_options.specs.Number.{number, is_free, is_new, pick}
use Rattle.ppp_options.specs.NumberLaw.{pick-new}
use Rattle.ppp_options.specs.NumberRule.{number_rule}
use Rattle.ppp_options.specs.Rule.{IsRule}

new-nonzero : (avoid : ℕ) (body : List ℕ) → is_new 4 avoid body ≡ true → is_new 4 0 body ≡ true
new-nonzero avoid body h = grind (arith, nat_tests)

new-long : (avoid : ℕ) (body : List ℕ) → is_new 4 avoid body ≡ true → length body ≡ 4
new-long avoid body h = grind (arith, nat_tests)

pub drawn-sent : (word avoid : ℕ) → is_new 4 0 (four_octets (pick word avoid)) ≡ true
drawn-sent word avoid = new-nonzero avoid (four_octets (pick word avoid)) (pick-new word avoid)

taken-sent : (last nak drawn : List ℕ) → is_new 4 0 last ≡ true → is_new 4 0 drawn ≡ true →
    is_new 4 0 (if not (length nak == 4) then last else if is_free (number last) (number nak) then nak else drawn) ≡ true
taken-sent last nak drawn h k = grind (arith, nat_tests)

taken-long : (last nak drawn : List ℕ) → length last ≡ 4 → length drawn ≡ 4 →
    length (if not (length nak == 4) then last else if is_free (number last) (number nak) then nak else drawn) ≡ length last
taken-long last nak drawn h k = grind (arith, nat_tests)

pub number_is_rule : (kind : ℕ) (required : Bool) (first : ℕ → Option (List ℕ)) →
    ((word : ℕ) (body : List ℕ) → first word ≡ Some body → is_new 4 0 body ≡ true) →
    (required ≡ true → (word : ℕ) → is_some (first word) ≡ true) → IsRule (number_rule kind required first)
number_is_rule kind required first sent there = record {
  first_sent = sent;
  first_set = λ word body e. refl;
  first_there = there;
  after_sent = λ last nak word h. taken-sent last nak (four_octets (pick word (number last))) h (drawn-sent word (number last));
  after_set = λ last nak word h k. refl;
  after_long = λ last nak word h. taken-long last nak (four_octets (pick word (number last))) (new-long 0 last h) refl;
  sent_short = λ body h. let long = new-long 0 body h in omega arith;
  good_short = λ own body known h. let long = new-long _ body h in omega arith;
  better_short = λ own body word. omega arith;
}
