-- A list that is acknowledged passes the table.
use Rattle.std.proofs.Common.{◌≡◌, ℕ, Bool, true, false, ◌||◌, if◌then◌else◌, List, [], ◌∷◌, ◌++◌, Option, Some, None, refl, arith}
use Rattle.std.proofs.lemmas.Bool.Decides.{nat_tests}
use Rattle.ppp_packet.specs.ConfigOption.{ConfigOption}
use Rattle.ppp_auto.specs.declared.verdict.Verdict.{Verdict}
use Rattle.ppp_auto.specs.declared.verdict.Verdict.TheVariants.{Good, Bad, Unknown}
use Rattle.ppp_auto.specs.declared.input.Input.TheVariants.{ReceiveConfigureRequestGood}
use Rattle.ppp_auto.specs.Reply.{has_kind, is_refused, rejected, better_of, suggested, unacceptable, reply_with, reply_to}
use Rattle.std.specs.Option.{option_to_list}
use Rattle.ppp_auto.specs.Lawful.{AllGood, NoneTwice, Passes}
use Rattle.ppp_auto.specs.OptionTable.{Table}

empty_if : (b : Bool) (o : ConfigOption) (xs ys : List ConfigOption) → (if b then o ∷ xs else ys) ≡ [] → (b ≡ false) × (ys ≡ [])
empty_if true o xs ys e = cc
empty_if false o xs ys e = (refl, e)

neither : (b c : Bool) → (b || c) ≡ false → (b ≡ false) × (c ≡ false)
neither true c e = cc
neither false c e = (refl, e)

good_at : (o : ConfigOption) (v : Verdict) (rest : List ConfigOption) → is_refused o v ≡ false → (better_of v ++ rest) ≡ [] → (v ≡ Good) × (rest ≡ [])
good_at o Good rest h e = (refl, e)
good_at o (Bad better) rest h e = cc
good_at o Unknown rest h e = cc

record Clean (t : Table) (own : List ConfigOption) (word : ℕ) (earlier theirs : List ConfigOption) : Type 0 where
  good : AllGood t own word theirs
  once : NoneTwice earlier theirs

-- nothing is rejected and nothing suggested
clean : (t : Table) (own : List ConfigOption) (word : ℕ) (earlier theirs : List ConfigOption) →
    rejected (λ o. t.judge own o word) earlier theirs ≡ [] → suggested (λ o. t.judge own o word) theirs ≡ [] → Clean t own word earlier theirs
clean t own word earlier [] r s = record { good = tt; once = tt }
clean t own word earlier (o ∷ os) r s =
    let judge : ConfigOption → Verdict = λ x. t.judge own x word in
    let first = empty_if (has_kind o.kind earlier || is_refused o (judge o)) o (rejected judge (earlier ++ o ∷ []) os) (rejected judge (earlier ++ o ∷ []) os) r in
    let fine = neither (has_kind o.kind earlier) (is_refused o (judge o)) first.0 in
    let good = good_at o (judge o) (suggested judge os) fine.1 s in
    let rest = clean t own word (earlier ++ o ∷ []) os first.1 good.1 in
    record { good = (good.0, rest.good); once = (fine.0, rest.once) }

none_listed : (o : Option ConfigOption) → option_to_list o ≡ [] → o ≡ None
none_listed None e = refl
none_listed (Some o) e = cc

-- what is acknowledged has nothing to reject, nothing better and nothing missing
none_refused : (naks id : ℕ) (theirs refused better missing bad : List ConfigOption) →
    (reply_with naks id theirs refused better missing bad).input ≡ ReceiveConfigureRequestGood → refused ≡ []
none_refused naks id theirs refused better missing bad h = grind (arith, nat_tests)

none_better : (naks id : ℕ) (theirs refused better missing bad : List ConfigOption) →
    (reply_with naks id theirs refused better missing bad).input ≡ ReceiveConfigureRequestGood → better ≡ []
none_better naks id theirs refused better missing bad h = grind (arith, nat_tests)

none_missing : (naks id : ℕ) (theirs refused better missing bad : List ConfigOption) →
    (reply_with naks id theirs refused better missing bad).input ≡ ReceiveConfigureRequestGood → missing ≡ []
none_missing naks id theirs refused better missing bad h = grind (arith, nat_tests)

pub accepted_passes : (t : Table) (own : List ConfigOption) (naks word id : ℕ) (theirs : List ConfigOption) →
    (reply_to t own naks word id theirs).input ≡ ReceiveConfigureRequestGood → Passes t own theirs word
accepted_passes t own naks word id theirs e =
    let judge : ConfigOption → Verdict = λ o. t.judge own o word in
    let refused = rejected judge [] theirs in
    let better = suggested judge theirs in
    let missing = option_to_list (t.missing own theirs word) in
    let bad = unacceptable judge theirs in
    let fine = clean t own word [] theirs (none_refused naks id theirs refused better missing bad e) (none_better naks id theirs refused better missing bad e) in
    record { good = fine.good; once = fine.once; whole = none_listed (t.missing own theirs word) (none_missing naks id theirs refused better missing bad e) }
