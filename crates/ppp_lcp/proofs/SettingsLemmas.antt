-- Lists that are asked for keep to the settings.
use Rattle.std.proofs.Common.{◌≡◌, ℕ, ◌≤◌, Bool, true, false, not, List, [], ◌∷◌, ◌⊎◌, inl, inr, refl, sym, arith}
use Rattle.std.specs.Prelude.{◌==◌, nat_le, nat_eq, if◌then◌else◌, Option, Some, None}
use Rattle.std.specs.List.{list_all}
use Rattle.std.specs.Option.{option_map}
use Rattle.std.specs.Str.{bytes_eq}
use Rattle.std.specs.Cmp.Lexicographic.{same_text}
use Rattle.std.proofs.lemmas.Bool.Decides.{nat_tests}
use Rattle.ppp_packet.specs.ConfigOption.{ConfigOption}
use Rattle.ppp_packet.specs.Options.{find_kind}
use Rattle.ppp_packet.specs.Packet.{two_octets}
use Rattle.ppp_options.specs.Number.{number}
use Rattle.ppp_options.specs.Rule.{Rule}
use Rattle.ppp_options.specs.Rules.{rule_of, is_set, is_set_by, is_sendable, IsAsked}
use Rattle.ppp_options.specs.RuleLaw.{and-both}
use Rattle.ppp_lcp.specs.LcpTable.{lcp_rules, is_multilink, disc_body, is_link_disc, has_classes, is_own_form}
use Rattle.ppp_lcp.specs.Settings.{KeepsSettings}
use Rattle.ppp_lcp.specs.LcpSettings.{LcpSettings}

found-here : (rs : List Rule) (kind : ℕ) (o : ConfigOption) (body : List ℕ) → (o.kind ≡ kind) × (o.body ≡ body) →
    is_set rs o ≡ true → is_set_by (rule_of kind rs) body ≡ true
found-here rs kind o body same h = rw (same.0, same.1) at h

head-or-tail : (b : Bool) (body found : List ℕ) (rest : Option (List ℕ)) →
    (if b then Some body else rest) ≡ Some found → ((b ≡ true) × (body ≡ found)) ⊎ (rest ≡ Some found)
head-or-tail true body found rest e = inl (refl, cc)
head-or-tail false body found rest e = inr e

same-kind : (a b : ℕ) → nat_eq a b ≡ true → a ≡ b
same-kind a b h = grind (arith, nat_tests)

-- an option that is found is one that the settings give
pub found-set : (rs : List Rule) (kind : ℕ) (list : List ConfigOption) (body : List ℕ) →
    list_all (is_set rs) list ≡ true → find_kind kind list ≡ Some body → is_set_by (rule_of kind rs) body ≡ true
found-set rs kind [] body all e = cc
found-set rs kind (o ∷ os) body all e =
    let both = and-both (is_set rs o) (list_all (is_set rs) os) all in
    elim (head-or-tail (nat_eq o.kind kind) o.body body (find_kind kind os) e) [
      | inl here ↦ found-here rs kind o body (same-kind o.kind kind here.0, here.1) both.0
      | inr later ↦ found-set rs kind os body both.1 later
    ]

not-false : (b : Bool) → not b ≡ true → b ≡ false
not-false true h = cc
not-false false h = refl

at-most : (a b : ℕ) → nat_le a b ≡ true → a ≤ b
at-most a b h = grind (arith, nat_tests)

link-is : (own : Option ℕ) (body : List ℕ) → is_link_disc own body ≡ true → option_map two_octets own ≡ Some body
link-is None body h = cc
link-is (Some n) body h = let same : body ≡ two_octets n = same_text body (two_octets n) (sym h) in cc

pub asked-keeps : (t : LcpSettings) (list : List ConfigOption) → IsAsked (lcp_rules t) list → KeepsSettings t list
asked-keeps t list h =
    let all = (and-both (is_sendable (lcp_rules t) list) (list_all (is_set (lcp_rules t)) list) h).1 in
    record {
      pfc = λ body has. found-set (lcp_rules t) 7 list body all has;
      acfc = λ body has. found-set (lcp_rules t) 8 list body all has;
      mrru = λ body has. let both = and-both (is_multilink t) (nat_le (number body) t.mrru) (found-set (lcp_rules t) 17 list body all has) in (both.0, at-most _ _ both.1);
      short = λ body has. found-set (lcp_rules t) 18 list body all has;
      disc = λ body has. let both = and-both (not (t.disc.0 == 0)) (bytes_eq body (disc_body t)) (found-set (lcp_rules t) 19 list body all has) in
          (not-false _ both.0, same_text body (disc_body t) (sym both.1));
      link_disc = λ body has. link-is t.link_disc body (found-set (lcp_rules t) 23 list body all has);
      classes = λ body has. and-both (has_classes t) (is_own_form t body) (found-set (lcp_rules t) 27 list body all has);
    }
