-- BACP's row owes what rows owe, and the two ends' numbers differ.
use Rattle.std.proofs.Common.{◌≡◌, ℕ, ◌<◌, ◌^◌, true, List, refl, subst, arith}
use Rattle.std.specs.Prelude.{Some}
use Rattle.std.proofs.lemmas.Bool.Decides.{nat_tests}
use Rattle.ppp_packet.specs.ConfigOption.{ConfigOption}
use Rattle.ppp_auto.specs.Taken.{four_octets}
use Rattle.ppp_options.specs.DiffersLaw.{TakesOthers, allowed-differs}
use Rattle.ppp_options.specs.Number.{number, is_free, is_new}
use Rattle.ppp_options.specs.NumberLaw.{number-four_octets}
use Rattle.ppp_options.specs.NumberRuleLaw.{number_is_rule}
use Rattle.ppp_options.specs.Rules.{IsTable, Sendable, Allows}
use Rattle.ppp_bacp.specs.BacpTable.{FitsFavored, is_favored, bacp_rules}

below : (favored : ℕ) → is_favored favored ≡ true → favored < 2 ^ 32
below favored h = grind (arith, nat_tests)

new-at : (n favored : ℕ) → n ≡ favored → is_favored favored ≡ true → is_free 0 n ≡ true
new-at n favored same h = grind (arith, nat_tests)

first-sent : (favored : ℕ) (body : List ℕ) → is_favored favored ≡ true → Some (four_octets favored) ≡ Some body →
    is_new 4 0 body ≡ true
first-sent favored body h e =
    let same : four_octets favored ≡ body = cc in
    subst (λ (b : List ℕ). is_new 4 0 b ≡ true) same (new-at (number (four_octets favored)) favored (number-four_octets favored (below favored h)) h)

pub bacp_is_table : (favored : ℕ) → is_favored favored ≡ true → IsTable (bacp_rules favored)
bacp_is_table favored h = record {
  ascending = refl;
  each = (number_is_rule 1 true (λ word. Some (four_octets favored)) (λ word body e. first-sent favored body h e) (λ e word. refl), tt);
  fits = omega arith;
  few = omega arith;
}

pub takes_others : (favored : ℕ) → TakesOthers (bacp_rules favored) 1 4
takes_others favored = record { takes = λ own body h. h }

pub bacp_fits : (favored : ℕ) (own theirs : List ConfigOption) → Sendable (bacp_rules favored) own →
    Allows (bacp_rules favored) own theirs → FitsFavored own theirs
bacp_fits favored own theirs sends allowed = allowed-differs (bacp_rules favored) 1 4 (takes_others favored) own theirs allowed
