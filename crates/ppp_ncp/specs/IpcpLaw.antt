-- IPCP's row owes what rows owe.
use Rattle.std.proofs.Common.{◌≡◌, ℕ, ◌+◌, ◌≤◌, Bool, true, ◌&&◌, List, length, refl, subst, arith}
use Rattle.std.specs.Prelude.{◌==◌, if◌then◌else◌, Option, Some}
use Rattle.std.proofs.lemmas.Bool.Decides.{nat_tests}
use Rattle.ppp_auto.specs.Taken.{four_octets}
use Rattle.ppp_options.specs.Rule.{IsRule}
use Rattle.ppp_options.specs.Rules.{IsTable}
use Rattle.ppp_ncp.specs.IpcpTable.{is_address, address_rule, ipcp_rules}

first-sent : (own : ℕ) (body : List ℕ) → Some (four_octets own) ≡ Some body → (length body == 4) ≡ true
first-sent own body e = let same : four_octets own ≡ body = cc in subst (λ (b : List ℕ). (length b == 4) ≡ true) same refl

after-long : (b : Bool) (last nak : List ℕ) → (length last == 4) ≡ true →
    length (if b && is_address nak then nak else last) ≡ length last
after-long b last nak h = grind (arith, nat_tests)

after-sent : (b : Bool) (last nak : List ℕ) → (length last == 4) ≡ true →
    (length (if b && is_address nak then nak else last) == 4) ≡ true
after-sent b last nak h = grind (arith, nat_tests)

sent-short : (body : List ℕ) → (length body == 4) ≡ true → 2 + length body ≤ 6
sent-short body h = grind (arith, nat_tests)

good-short : (body : List ℕ) → is_address body ≡ true → 2 + length body ≤ 6
good-short body h = grind (arith, nat_tests)

is_rule : (own : ℕ) (give : Option ℕ) → IsRule (address_rule own give)
is_rule own give = record {
  first_sent = λ word body e. first-sent own body e;
  first_set = λ word body e. refl;
  first_there = λ e word. cc;
  after_sent = λ last nak word h. after-sent (own == 0) last nak h;
  after_set = λ last nak word h k. refl;
  after_long = λ last nak word h. after-long (own == 0) last nak h;
  sent_short = sent-short;
  good_short = λ mine body known h. good-short body h;
  better_short = λ mine body word. omega arith;
}

pub ipcp_is_table : (own : ℕ) (give : Option ℕ) → IsTable (ipcp_rules own give)
ipcp_is_table own give = record { ascending = refl; each = (is_rule own give, tt); fits = omega arith; few = omega arith }
