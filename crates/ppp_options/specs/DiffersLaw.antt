-- Where a row takes only numbers that differ from the own, an allowed list has another number than the own list, or none.
use Rattle.std.proofs.Common.{◌≡◌, ◌≢◌, ℕ, ◌⊎◌, Bool, true, false, not, ◌&&◌, ◌||◌, List, [], ◌∷◌, ◌++◌, length, refl, inl, arith}
use Rattle.std.specs.Prelude.{◌==◌, nat_eq, if◌then◌else◌, is_some, Option, Some}
use Rattle.std.specs.Option.{option_map}
use Rattle.std.proofs.lemmas.Bool.Decides.{nat_tests}
use Rattle.ppp_packet.specs.ConfigOption.{ConfigOption}
use Rattle.ppp_packet.specs.Options.{find_kind}
use Rattle.ppp_auto.specs.Reply.{has_kind}
use Rattle.ppp_options.specs.Number.{number, number_or_zero, body_of, number_of, number_in, is_new}
use Rattle.ppp_options.specs.Differs.{Differs, NumbersDiffer}
use Rattle.ppp_options.specs.Rule.{Rule}
use Rattle.ppp_options.specs.Rules.{rule_of, is_fine_by, is_fine, all_fine, has_required, Allows}
use Rattle.ppp_options.specs.RuleLaw.{and-both}

-- Each option of that Type that is fine has such a number.
pub record TakesOthers (rs : List Rule) (kind size : ℕ) : Type 0 where
  pub takes : (own : List ConfigOption) (body : List ℕ) → is_fine_by (rule_of kind rs) own body ≡ true → is_new size (number_of kind size own) body ≡ true

is-other : (n : ℕ) (own : ℕ) (size : ℕ) (body : List ℕ) → is_new size own body ≡ true → n ≡ number body → (n ≡ 0) ⊎ (n ≢ own)
is-other n own size body new same = grind (arith, nat_tests)

other-head : (b : Bool) (body : List ℕ) (rest : Option (List ℕ)) (own : ℕ) →
    (b ≡ true → (number body ≡ 0) ⊎ (number body ≢ own)) →
    (number_or_zero rest ≡ 0) ⊎ (number_or_zero rest ≢ own) →
    (number_or_zero (if b then Some body else rest) ≡ 0) ⊎ (number_or_zero (if b then Some body else rest) ≢ own)
other-head true body rest own here later = here refl
other-head false body rest own here later = later

fine-at : (rs : List Rule) (kind : ℕ) (own : List ConfigOption) (o : ConfigOption) → o.kind ≡ kind →
    is_fine rs own o ≡ true → is_fine_by (rule_of kind rs) own o.body ≡ true
fine-at rs kind own o e h = rw e at h

kind-of : (kind size : ℕ) (o : ConfigOption) → ((o.kind == kind) && (length o.body == size)) ≡ true → o.kind ≡ kind
kind-of kind size o h = grind (arith, nat_tests)

other-number : (rs : List Rule) (kind size : ℕ) → TakesOthers rs kind size →
    (own earlier theirs : List ConfigOption) → all_fine rs own earlier theirs ≡ true →
    (number_of kind size theirs ≡ 0) ⊎ (number_of kind size theirs ≢ number_of kind size own)
other-number rs kind size t own earlier [] h = inl refl
other-number rs kind size t own earlier (o ∷ os) h =
    let one = and-both _ _ h in let two = and-both _ _ one.0 in
    other-head ((o.kind == kind) && (length o.body == size)) o.body (body_of kind size os) (number_of kind size own)
    (λ here. is-other (number o.body) (number_of kind size own) size o.body (t.takes own o.body (fine-at rs kind own o (kind-of kind size o here) two.0)) refl)
    (other-number rs kind size t own (earlier ++ o ∷ []) os one.1)

differs-if : (one other : ℕ) → (other ≡ 0) ⊎ (other ≢ one) → ((one == 0) || not (one == other)) ≡ true
differs-if one other h = grind (arith, nat_tests)

pub allowed-differs : (rs : List Rule) (kind size : ℕ) → TakesOthers rs kind size → (own theirs : List ConfigOption) →
    Allows rs own theirs → Differs kind size own theirs
allowed-differs rs kind size t own theirs h =
    let both = and-both (all_fine rs own [] theirs) (has_required rs theirs) h in
    differs-if (number_of kind size own) (number_of kind size theirs) (other-number rs kind size t own [] theirs both.0)

either-way : (one other : ℕ) → ((one == 0) || not (one == other)) ≡ true → ((other == 0) || not (other == one)) ≡ true
either-way one other h = grind (arith, nat_tests)

pub differs-both_ways : (kind size : ℕ) (one other : List ConfigOption) → Differs kind size one other →
    Differs kind size other one
differs-both_ways kind size one other h = either-way (number_of kind size one) (number_of kind size other) h

-- Each number of an allowed list counts, and isn't 0.
there-head : (b : Bool) (size avoid : ℕ) (body : List ℕ) (rest found : Option (List ℕ)) (n : ℕ) → (b ≡ true → is_new size avoid body ≡ true) →
    (option_map number found ≡ Some n → (number_or_zero rest ≡ n) × (n ≢ 0)) → option_map number (if b then Some body else found) ≡ Some n →
    (number_or_zero (if b && (length body == size) then Some body else rest) ≡ n) × (n ≢ 0)
there-head true size avoid body rest found n new later e =
    let fine = new refl in
    let long : (length body == size) ≡ true = grind (arith, nat_tests) in
    let same : number body ≡ n = cc in
    (rw long same, grind (arith, nat_tests))
there-head false size avoid body rest found n new later e = later e

same-kind : (a b : ℕ) → nat_eq a b ≡ true → a ≡ b
same-kind a b h = grind (arith, nat_tests)

is-there : (rs : List Rule) (kind size : ℕ) → TakesOthers rs kind size → (own earlier theirs : List ConfigOption) (n : ℕ) →
    all_fine rs own earlier theirs ≡ true → number_in kind theirs ≡ Some n → (number_of kind size theirs ≡ n) × (n ≢ 0)
is-there rs kind size t own earlier [] n h e = cc
is-there rs kind size t own earlier (o ∷ os) n h e =
    let one = and-both _ _ h in let two = and-both _ _ one.0 in
    there-head (nat_eq o.kind kind) size (number_of kind size own) o.body (body_of kind size os) (find_kind kind os) n
    (λ here. t.takes own o.body (fine-at rs kind own o (same-kind o.kind kind here) two.0))
    (is-there rs kind size t own (earlier ++ o ∷ []) os n one.1) e

two-differ : (one other m n : ℕ) → ((one == 0) || not (one == other)) ≡ true → one ≡ m → other ≡ n → m ≢ 0 → m ≢ n
two-differ one other m n h is_one is_other some = grind (arith, nat_tests)

-- So where two tables take such numbers alone, the numbers in two allowed lists differ.
pub allowed-numbers-differ : (ra rb : List Rule) (kind size : ℕ) → TakesOthers ra kind size → TakesOthers rb kind size →
    (against_a against_b one other : List ConfigOption) → Allows rb against_b one → Allows ra against_a other → Differs kind size one other → NumbersDiffer kind one other
allowed-numbers-differ ra rb kind size ta tb against_a against_b one other h k differ m n is_m is_n =
    let first = and-both (all_fine rb against_b [] one) (has_required rb one) h in
    let second = and-both (all_fine ra against_a [] other) (has_required ra other) k in
    let a = is-there rb kind size tb against_b [] one m first.0 is_m in
    let b = is-there ra kind size ta against_a [] other n second.0 is_n in
    two-differ (number_of kind size one) (number_of kind size other) m n differ a.0 b.0 a.1

has-number : (kind : ℕ) (list : List ConfigOption) → has_kind kind list ≡ true → is_some (number_in kind list) ≡ true
has-number kind [] h = cc
has-number kind (o ∷ os) h = let rest = has-number kind os in grind (arith, nat_tests)

-- Where the first row is of a required option, each allowed list has a number of its Type.
pub required-number : (r : Rule) (rs : List Rule) (own theirs : List ConfigOption) → r.required ≡ true → Allows (r ∷ rs) own theirs → is_some (number_in r.kind theirs) ≡ true
required-number r rs own theirs required h =
    let both = and-both (all_fine (r ∷ rs) own [] theirs) (has_required (r ∷ rs) theirs) h in
    has-number r.kind theirs (rw required at (and-both (not r.required || has_kind r.kind theirs) (has_required rs theirs) both.1).0)
