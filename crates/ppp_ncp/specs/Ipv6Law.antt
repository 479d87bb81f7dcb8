-- IPV6CP's row owes what rows owe, and the two ends' identifiers differ.
use Rattle.std.proofs.Common.{◌≡◌, ℕ, ◌+◌, ◌≤◌, Bool, true, false, ◌&&◌, List, length, refl, subst, arith}
use Rattle.std.specs.Prelude.{◌==◌, if◌then◌else◌, Some}
use Rattle.std.specs.Bool.{then_some}
use Rattle.std.proofs.lemmas.Bool.Decides.{nat_tests}
use Rattle.ppp_packet.specs.ConfigOption.{ConfigOption}
use Rattle.ppp_options.specs.DiffersLaw.{TakesOthers, allowed-differs}
use Rattle.ppp_options.specs.Number.{eight_octets, is_new}
use Rattle.ppp_options.specs.Rule.{IsRule}
use Rattle.ppp_options.specs.Rules.{IsTable, Sendable, Allows}
use Rattle.ppp_ncp.specs.Ipv6Table.{FitsIdentifier, is_zero, identifier_rule, ipv6_rules}

first-sent : (ask : Bool) (own : ℕ) (body : List ℕ) → then_some ask (eight_octets own) ≡ Some body → (length body == 8) ≡ true
first-sent true own body e = let same : eight_octets own ≡ body = cc in subst (λ (b : List ℕ). (length b == 8) ≡ true) same refl
first-sent false own body e = cc

after-long : (last nak : List ℕ) → (length last == 8) ≡ true → length (if is_new 8 0 nak then nak else last) ≡ length last
after-long last nak h = grind (arith, nat_tests)

after-sent : (last nak : List ℕ) → (length last == 8) ≡ true → (length (if is_new 8 0 nak then nak else last) == 8) ≡ true
after-sent last nak h = grind (arith, nat_tests)

sent-short : (body : List ℕ) → (length body == 8) ≡ true → 2 + length body ≤ 10
sent-short body h = grind (arith, nat_tests)

good-short : (own : ℕ) (body : List ℕ) → is_new 8 own body ≡ true → 2 + length body ≤ 10
good-short own body h = grind (arith, nat_tests)

if-short : (b : Bool) (body drawn : List ℕ) → length drawn ≡ 8 → length (if is_zero body && b then body else drawn) ≤ 32
if-short b body drawn h = grind (arith, nat_tests)

is_rule : (own : ℕ) (ask : Bool) → IsRule (identifier_rule own ask)
is_rule own ask = record {
  first_sent = λ word body e. first-sent ask own body e;
  first_set = λ word body e. refl;
  first_there = λ e word. cc;
  after_sent = λ last nak word h. after-sent last nak h;
  after_set = λ last nak word h k. refl;
  after_long = λ last nak word h. after-long last nak h;
  sent_short = sent-short;
  good_short = λ mine body known h. good-short _ body h;
  better_short = λ mine body word. if-short _ body _ refl;
}

pub ipv6_is_table : (own : ℕ) (ask : Bool) → IsTable (ipv6_rules own ask)
ipv6_is_table own ask = record { ascending = refl; each = (is_rule own ask, tt); fits = omega arith; few = omega arith }

pub takes_others : (own : ℕ) (ask : Bool) → TakesOthers (ipv6_rules own ask) 1 8
takes_others own ask = record { takes = λ mine body h. h }

pub ipv6_fits : (own : ℕ) (ask : Bool) (mine theirs : List ConfigOption) → Sendable (ipv6_rules own ask) mine →
    Allows (ipv6_rules own ask) mine theirs → FitsIdentifier mine theirs
ipv6_fits own ask mine theirs sends allowed = allowed-differs (ipv6_rules own ask) 1 8 (takes_others own ask) mine theirs allowed
