-- The numbers of two Opened ends differ, for any two tables that take only numbers other than their own.
use Rattle.std.proofs.Common.{◌≡◌, ◌≢◌, ℕ, Bool, true, false, not, List, [], refl, arith}
use Rattle.std.specs.Prelude.{is_some, Option, Some, None}
use Rattle.std.proofs.lemmas.Bool.Decides.{nat_tests}
use Rattle.ppp_packet.specs.ConfigOption.{ConfigOption}
use Rattle.ppp_auto.specs.Lawful.{Lawful}
use Rattle.ppp_auto.specs.declared.auto_state.AutoState.TheVariants.{Opened}
use Rattle.ppp_bacp.specs.BacpLaw.{bacp_is_table}
use Rattle.ppp_bacp.specs.BacpLaw.{takes_others as bacp_takes}
use Rattle.ppp_bacp.specs.BacpTable.{favored_rule, bacp_rules}
use Rattle.ppp_bacp.specs.declared.bacp_table.BacpTable.{BacpTable}
use Rattle.ppp_bacp.specs.declared.bacp_table.TheConstants.{FAVORED_PEER}
use Rattle.ppp_duet.specs.Agreement.{Agree}
use Rattle.ppp_duet.specs.Duet.{Duet, Setup}
use Rattle.ppp_duet.specs.Reached.{Reached}
use Rattle.ppp_duet.specs.Terms.{Terms}
use Rattle.ppp_duet.proofs.ReachedLemmas.{agreement_at}
use Rattle.ppp_options.specs.Differs.{Differs, NumbersDiffer, HaveNumbers}
use Rattle.ppp_options.specs.DiffersLaw.{TakesOthers, allowed-differs, allowed-numbers-differ, differs-both_ways, required-number}
use Rattle.ppp_options.specs.Number.{number_in}
use Rattle.ppp_options.specs.Rule.{Rule}
use Rattle.ppp_options.specs.RuleLaw.{rules_lawful}
use Rattle.ppp_options.specs.Rules.{table_by, Sendable, IsUnknown, Allows, IsTable}
use Rattle.ppp_world.specs.Difference.{is_favoured, holds_favoured}

-- an end with a table of rows
abbrev pub setup_by : Bool → List Rule → (List ConfigOption → ℕ) → ℕ → Setup
setup_by extended rs magic first = record { table = table_by extended rs magic; first = first }

terms_by : Bool → List Rule → (List ConfigOption → ℕ) → ℕ → Terms
terms_by extended rs magic first =
    record { setup = setup_by extended rs magic first; keeps = Sendable rs; unknown = IsUnknown rs; allows = Allows rs }

lawful_by : (extended : Bool) (rs : List Rule) (magic : List ConfigOption → ℕ) (kind size : ℕ) → IsTable rs → TakesOthers rs kind size →
    Lawful (table_by extended rs magic) (Sendable rs) (IsUnknown rs) (Allows rs) (Differs kind size)
lawful_by extended rs magic kind size table takes =
    rules_lawful extended rs magic (Differs kind size) table (λ own theirs sends. allowed-differs rs kind size takes own theirs) (differs-both_ways kind size)

module _ (extended : Bool) (magic : List ConfigOption → ℕ) (kind size : ℕ) (ra rb : List Rule) (first_a first_b : ℕ)
    (table_a : IsTable ra) (table_b : IsTable rb) (takes_a : TakesOthers ra kind size) (takes_b : TakesOthers rb kind size) where
  agree_at : (d : Duet) → Reached (setup_by extended ra magic first_a) (setup_by extended rb magic first_b) d → d.a.auto.state ≡ Opened → d.b.auto.state ≡ Opened →
      Agree (Sendable ra) (Sendable rb) (Allows ra) (Allows rb) (Differs kind size) d
  unfolding terms_by
  agree_at d r =
      agreement_at (Differs kind size) (terms_by extended ra magic first_a) (terms_by extended rb magic first_b)
      (lawful_by extended ra magic kind size table_a takes_a) (lawful_by extended rb magic kind size table_b takes_b) d r

  -- the numbers differ
  pub differ_at : (d : Duet) → Reached (setup_by extended ra magic first_a) (setup_by extended rb magic first_b) d → d.a.auto.state ≡ Opened → d.b.auto.state ≡ Opened →
      NumbersDiffer kind d.a.auto.own d.b.auto.own
  differ_at d r opened_a opened_b =
      let h = agree_at d r opened_a opened_b in
      allowed-numbers-differ ra rb kind size takes_a takes_b d.a.against d.b.against d.a.auto.own d.b.auto.own h.b_allows h.a_allows h.fits

-- BACP's, and of two numbers that differ one is lower
one-lower : (x y : Option ℕ) → is_some x ≡ true → is_some y ≡ true → ((m n : ℕ) → x ≡ Some m → y ≡ Some n → m ≢ n) → is_favoured x y ≡ not (is_favoured y x)
one-lower None y some_x some_y differ = cc
one-lower (Some m) None some_x some_y differ = cc
one-lower (Some m) (Some n) some_x some_y differ = let other = differ m n refl refl in grind (arith, nat_tests)

abbrev pub bacp_setup : BacpTable → ℕ → Setup
bacp_setup t first = setup_by false (bacp_rules t.favored) (λ mine. 0) first

module _ (a b : BacpTable) (first_a first_b : ℕ) where
  agree_bacp : (d : Duet) → Reached (bacp_setup a first_a) (bacp_setup b first_b) d → d.a.auto.state ≡ Opened → d.b.auto.state ≡ Opened →
      Agree (Sendable (bacp_rules a.favored)) (Sendable (bacp_rules b.favored)) (Allows (bacp_rules a.favored)) (Allows (bacp_rules b.favored)) (Differs 1 4) d
  agree_bacp = agree_at false (λ mine. 0) 1 4 (bacp_rules a.favored) (bacp_rules b.favored) first_a first_b
      (bacp_is_table a.favored a.is_favored) (bacp_is_table b.favored b.is_favored) (bacp_takes a.favored) (bacp_takes b.favored)

  pub favored_differ_at : (d : Duet) → Reached (bacp_setup a first_a) (bacp_setup b first_b) d → d.a.auto.state ≡ Opened → d.b.auto.state ≡ Opened →
      NumbersDiffer FAVORED_PEER d.a.auto.own d.b.auto.own
  favored_differ_at = differ_at false (λ mine. 0) 1 4 (bacp_rules a.favored) (bacp_rules b.favored) first_a first_b
      (bacp_is_table a.favored a.is_favored) (bacp_is_table b.favored b.is_favored) (bacp_takes a.favored) (bacp_takes b.favored)

  -- both ends have a number
  pub favored_there_at : (d : Duet) → Reached (bacp_setup a first_a) (bacp_setup b first_b) d → d.a.auto.state ≡ Opened → d.b.auto.state ≡ Opened →
      HaveNumbers FAVORED_PEER d.a.auto.own d.b.auto.own
  favored_there_at d r opened_a opened_b =
      let h = agree_bacp d r opened_a opened_b in
      record {
        one_has = required-number (favored_rule b.favored) [] d.b.against d.a.auto.own refl h.b_allows;
        other_has = required-number (favored_rule a.favored) [] d.a.against d.b.auto.own refl h.a_allows;
      }

  -- and one end holds itself favoured
  pub one_favoured_at : (d : Duet) → Reached (bacp_setup a first_a) (bacp_setup b first_b) d → d.a.auto.state ≡ Opened → d.b.auto.state ≡ Opened →
      holds_favoured d.a ≡ not (holds_favoured d.b)
  one_favoured_at d r opened_a opened_b =
      let h = agree_bacp d r opened_a opened_b in
      let there = favored_there_at d r opened_a opened_b in
      let differ = favored_differ_at d r opened_a opened_b in
      rw (← h.a_acked, ← h.b_acked) (one-lower (number_in FAVORED_PEER d.a.auto.own) (number_in FAVORED_PEER d.b.auto.own) there.one_has there.other_has differ)
