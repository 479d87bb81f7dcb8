-- Naks and Rejects that don't name a Type leave the own options of that Type as they are, and what a table suggests
-- names the Type of the option that came. Where each option of a Type that came is good, the answer names none of it.
use Rattle.std.proofs.Common.{◌≡◌, ℕ, ◌+◌, ◌-◌, Bool, true, false, not, ◌||◌, List, [], ◌∷◌, ◌++◌, length, refl, sym, ◌∙◌, ap, arith}
use Rattle.std.specs.Prelude.{◌==◌, nat_eq, nat_lt, if◌then◌else◌, Option, Some, None}
use Rattle.std.specs.List.{AllByRecursion}
use Rattle.std.specs.Option.{option_to_list}
use Rattle.std.proofs.lemmas.Bool.Decides.{nat_tests}
use Rattle.std.proofs.lemmas.List.Folds.{list_any-append}
use Rattle.ppp_packet.specs.ConfigOption.{ConfigOption}
use Rattle.ppp_packet.specs.Options.{option_with, find_kind}
use Rattle.ppp_auto.specs.Lawful.{NoneTwice}
use Rattle.ppp_auto.specs.OptionTable.{Table}
use Rattle.ppp_auto.specs.Packet.{Request, Nak, Reject}
use Rattle.ppp_auto.specs.Reply.{has_kind, is_refused, rejected, better_of, bad_of, suggested, unacceptable, same_option, fitting, fitted, is_spent, refusing, reply_with, reply_to}
use Rattle.ppp_auto.specs.declared.verdict.Verdict.{Verdict}
use Rattle.ppp_auto.specs.declared.verdict.Verdict.TheVariants.{Good, Bad, Unknown}
use Rattle.ppp_options.specs.Free.{IsFree, LeavesAlone, AcksNothingBut, AcksNothingOf}
use Rattle.ppp_options.specs.Rule.{Rule}
use Rattle.ppp_options.specs.Rules.{rule_of, verdict_by, judge, missing, body_after, adapt_nak, without, requires_any, adapt_reject, table_by, is_known_by}
use Rattle.ppp_options.specs.RuleLaw.{bad-verdict, rule-kind}

if-same : (b : Bool) (x y : List ℕ) (rest more : Option (List ℕ)) → (b ≡ true → x ≡ y) → rest ≡ more →
    (if b then Some x else rest) ≡ (if b then Some y else more)
if-same true x y rest more same later = ap (λ (z : List ℕ). Some z) (same refl)
if-same false x y rest more same later = later

same-kind : (a b : ℕ) → nat_eq a b ≡ true → a ≡ b
same-kind a b h = grind (arith, nat_tests)

unnamed-body : (rs : List Rule) (named : Option (List ℕ)) (word : ℕ) (o : ConfigOption) → named ≡ None → body_after rs named word o ≡ o.body
unnamed-body rs None word o none = refl
unnamed-body rs (Some nak) word o none = cc

pub free-nak : (rs : List Rule) (kind : ℕ) (last nak : List ConfigOption) (word : ℕ) → find_kind kind nak ≡ None →
    find_kind kind (adapt_nak rs last nak word) ≡ find_kind kind last
free-nak rs kind [] nak word none = refl
free-nak rs kind (o ∷ os) nak word none =
    if-same (nat_eq o.kind kind) (body_after rs (find_kind o.kind nak) word o) o.body _ _
    (λ here. unnamed-body rs (find_kind o.kind nak) word o (rw (same-kind o.kind kind here) none))
    (free-nak rs kind os nak word none)

passed-by : (b : Bool) (x : List ℕ) (rest more : Option (List ℕ)) → (b ≡ true → false ≡ true) → rest ≡ more → rest ≡ (if b then Some x else more)
passed-by true x rest more stays later = let no : false ≡ true = stays refl in cc
passed-by false x rest more stays later = later

kept-if : (keep : Bool) (kind : ℕ) (o : ConfigOption) (rest more : List ConfigOption) → (nat_eq o.kind kind ≡ true → keep ≡ true) →
    find_kind kind rest ≡ find_kind kind more → find_kind kind (if keep then o ∷ rest else rest) ≡ find_kind kind (o ∷ more)
kept-if true kind o rest more stays later = if-same (nat_eq o.kind kind) o.body o.body _ _ (λ here. refl) later
kept-if false kind o rest more stays later = passed-by (nat_eq o.kind kind) o.body _ _ stays later

free-without : (kind : ℕ) (last reject : List ConfigOption) → has_kind kind reject ≡ false → find_kind kind (without last reject) ≡ find_kind kind last
free-without kind [] reject free = refl
free-without kind (o ∷ os) reject free =
    kept-if (not (has_kind o.kind reject)) kind o (without os reject) os
    (λ here. rw (same-kind o.kind kind here, free) refl) (free-without kind os reject free)

free-by : (any : Bool) (kind : ℕ) (last reject : List ConfigOption) → has_kind kind reject ≡ false →
    find_kind kind (if any then last else without last reject) ≡ find_kind kind last
free-by true kind last reject free = refl
free-by false kind last reject free = free-without kind last reject free

pub free-reject : (rs : List Rule) (kind : ℕ) (last reject : List ConfigOption) (word : ℕ) → has_kind kind reject ≡ false →
    find_kind kind (adapt_reject rs last reject word) ≡ find_kind kind last
free-reject rs kind last reject word free = free-by (requires_any rs) kind last reject free

better-by : (found : Option Rule) (kind : ℕ) (own : List ConfigOption) (body : List ℕ) (word : ℕ) (better : ConfigOption) →
    ((r : Rule) → found ≡ Some r → r.kind ≡ kind) → verdict_by found own body word ≡ Bad better → better.kind ≡ kind
better-by None kind own body word better is e = cc
better-by (Some r) kind own body word better is e =
    let same = bad-verdict (r.is_known body) (r.is_good own body) (option_with r.kind (r.better own body word)) better e in
    sym (ap (λ (o : ConfigOption). o.kind) same) ∙ is r refl

pub better-kind : (rs : List Rule) (own : List ConfigOption) (o better : ConfigOption) (word : ℕ) → judge rs own o word ≡ Bad better → better.kind ≡ o.kind
better-kind rs own o better word e = better-by (rule_of o.kind rs) o.kind own o.body word better (λ r found. rule-kind rs o.kind r found) e

-- What a table answers names no option of a Type, where each option of it that came is good.
abbrev AreGoodOf : ℕ → (ConfigOption → Verdict) → List ConfigOption → Type 0
AreGoodOf kind judge list = AllByRecursion (λ o. o.kind ≡ kind → judge o ≡ Good) list

free-cons : (kind : ℕ) (o : ConfigOption) (rest : List ConfigOption) → (o.kind ≡ kind → ⊥) → IsFree kind rest → IsFree kind (o ∷ rest)
free-cons kind o rest other free = grind (arith, nat_tests)

free-append : (kind : ℕ) (one other : List ConfigOption) → IsFree kind one → IsFree kind other → IsFree kind (one ++ other)
free-append kind one other free more = rw (list_any-append (λ (o : ConfigOption). o.kind == kind) one other, free) more

free-if : (b : Bool) (kind : ℕ) (o : ConfigOption) (rest : List ConfigOption) → (b ≡ true → o.kind ≡ kind → ⊥) → IsFree kind rest →
    IsFree kind (if b then o ∷ rest else rest)
free-if true kind o rest other free = free-cons kind o rest (other refl) free
free-if false kind o rest other free = free

free-front : (b : Bool) (kind : ℕ) (o : ConfigOption) (front rest : List ConfigOption) → (IsFree kind rest → IsFree kind front) → IsFree kind (o ∷ rest) →
    IsFree kind (if b then [] else o ∷ front)
free-front true kind o front rest step free = refl
free-front false kind o front rest step free = grind (arith, nat_tests)

free-fitting : (kind room : ℕ) (list : List ConfigOption) → IsFree kind list → IsFree kind (fitting room list)
free-fitting kind room [] free = refl
free-fitting kind room (o ∷ os) free =
    free-front (nat_lt room (2 + length o.body)) kind o (fitting (room - (2 + length o.body)) os) os (free-fitting kind (room - (2 + length o.body)) os) free

-- a good option isn't refused that stands there first
good-kept : (kind : ℕ) (o : ConfigOption) (earlier : Bool) (v : Verdict) → earlier ≡ false → (o.kind ≡ kind → v ≡ Good) →
    (earlier || is_refused o v) ≡ true → o.kind ≡ kind → ⊥
good-kept kind o earlier v first good refused same = let fine = good same in cc

free-rejected : (kind : ℕ) (judge : ConfigOption → Verdict) (earlier list : List ConfigOption) → NoneTwice earlier list → AreGoodOf kind judge list →
    IsFree kind (rejected judge earlier list)
free-rejected kind judge earlier [] once good = refl
free-rejected kind judge earlier (o ∷ os) once good =
    free-if (has_kind o.kind earlier || is_refused o (judge o)) kind o (rejected judge (earlier ++ o ∷ []) os)
    (good-kept kind o (has_kind o.kind earlier) (judge o) once.0 good.0)
    (free-rejected kind judge (earlier ++ o ∷ []) os once.1 good.1)

free-better : (kind : ℕ) (o : ConfigOption) (v : Verdict) → ((better : ConfigOption) → v ≡ Bad better → better.kind ≡ o.kind) → (o.kind ≡ kind → v ≡ Good) →
    IsFree kind (better_of v)
free-better kind o Good same good = refl
free-better kind o Unknown same good = refl
free-better kind o (Bad better) same good =
    free-cons kind better [] (λ is. let fine = good (sym (same better refl) ∙ is) in cc) refl

free-bad : (kind : ℕ) (o : ConfigOption) (v : Verdict) → (o.kind ≡ kind → v ≡ Good) → IsFree kind (bad_of o v)
free-bad kind o Good good = refl
free-bad kind o Unknown good = refl
free-bad kind o (Bad better) good = free-cons kind o [] (λ is. let fine = good is in cc) refl

free-suggested : (kind : ℕ) (judge : ConfigOption → Verdict) (list : List ConfigOption) →
    ((o better : ConfigOption) → judge o ≡ Bad better → better.kind ≡ o.kind) → AreGoodOf kind judge list → IsFree kind (suggested judge list)
free-suggested kind judge [] same good = refl
free-suggested kind judge (o ∷ os) same good =
    free-append kind (better_of (judge o)) (suggested judge os) (free-better kind o (judge o) (same o) good.0) (free-suggested kind judge os same good.1)

free-unacceptable : (kind : ℕ) (judge : ConfigOption → Verdict) (list : List ConfigOption) → AreGoodOf kind judge list → IsFree kind (unacceptable judge list)
free-unacceptable kind judge [] good = refl
free-unacceptable kind judge (o ∷ os) good =
    free-append kind (bad_of o (judge o)) (unacceptable judge os) (free-bad kind o (judge o) good.0) (free-unacceptable kind judge os good.1)

misses-none : (rs : List Rule) (own theirs : List ConfigOption) (word : ℕ) → requires_any rs ≡ false → missing rs own theirs word ≡ None
misses-none [] own theirs word none = refl
misses-none (r ∷ rs) own theirs word none = let rest = misses-none rs own theirs word in grind (arith, nat_tests)

free-spent : (kind : ℕ) (b : Bool) (id : ℕ) (better bad : List ConfigOption) → IsFree kind better → IsFree kind bad →
    LeavesAlone kind (if b then refusing (Reject id bad) else refusing (Nak id better)).answer
free-spent kind true id better bad free more = more
free-spent kind false id better bad free more = free

free-reply : (kind naks id : ℕ) (theirs refused better missing bad : List ConfigOption) →
    IsFree kind refused → IsFree kind better → IsFree kind missing → IsFree kind bad → LeavesAlone kind (reply_with naks id theirs refused better missing bad).answer
free-reply kind naks id theirs [] [] [] bad r b m u = tt
free-reply kind naks id theirs [] [] (o ∷ missing) bad r b m u = m
free-reply kind naks id theirs [] (o ∷ better) missing bad r b m u =
    free-spent kind (is_spent naks) id ((o ∷ better) ++ missing) (fitted bad) (free-append kind (o ∷ better) missing b m) (free-fitting kind _ bad u)
free-reply kind naks id theirs (o ∷ refused) better missing bad r b m u = free-fitting kind _ (o ∷ refused) r

pub free-answer : (extended : Bool) (rs : List Rule) (magic : List ConfigOption → ℕ) (kind : ℕ) (own : List ConfigOption) (naks word id : ℕ) (theirs : List ConfigOption) →
    requires_any rs ≡ false → NoneTwice [] theirs → AllByRecursion (λ o. o.kind ≡ kind → judge rs own o word ≡ Good) theirs →
    LeavesAlone kind (reply_to (table_by extended rs magic) own naks word id theirs).answer
free-answer extended rs magic kind own naks word id theirs none once good =
    let judged : ConfigOption → Verdict = λ o. judge rs own o word in
    free-reply kind naks id theirs (rejected judged [] theirs) (suggested judged theirs) (option_to_list (missing rs own theirs word)) (unacceptable judged theirs)
    (free-rejected kind judged [] theirs once good)
    (free-suggested kind judged theirs (λ o better e. better-kind rs own o better word e) good)
    (rw (misses-none rs own theirs word none) refl)
    (free-unacceptable kind judged theirs good)

-- It acknowledges a list as it came.
acks-reply : (naks id : ℕ) (theirs refused better missing bad : List ConfigOption) → AcksNothingBut theirs (reply_with naks id theirs refused better missing bad).answer
acks-reply naks id theirs [] [] [] bad = refl
acks-reply naks id theirs [] [] (o ∷ missing) bad = tt
acks-reply naks id theirs [] (o ∷ better) missing bad = acks-spent (is_spent naks)
  where
    acks-spent : (b : Bool) → AcksNothingBut theirs (if b then refusing (Reject id (fitted bad)) else refusing (Nak id ((o ∷ better) ++ missing))).answer
    acks-spent true = tt
    acks-spent false = tt
acks-reply naks id theirs (o ∷ refused) better missing bad = tt

pub acks-answer : (t : Table) (own : List ConfigOption) (naks word id : ℕ) (theirs : List ConfigOption) →
    AcksNothingBut theirs (reply_to t own naks word id theirs).answer
acks-answer t own naks word id theirs =
    let judged : ConfigOption → Verdict = λ o. t.judge own o word in
    acks-reply naks id theirs (rejected judged [] theirs) (suggested judged theirs) (option_to_list (t.missing own theirs word)) (unacceptable judged theirs)

-- And it acknowledges none with an option that it doesn't know.
unknown-kept : (b : Bool) (kind : ℕ) (o : ConfigOption) (v : Verdict) (rest : List ConfigOption) → (o.kind ≡ kind → v ≡ Unknown) →
    (if b || is_refused o v then o ∷ rest else rest) ≡ [] → (o.kind ≡ kind → ⊥) × (rest ≡ [])
unknown-kept true kind o v rest unknown e = cc
unknown-kept false kind o Good rest unknown e = ((λ is. let no = unknown is in cc), e)
unknown-kept false kind o (Bad better) rest unknown e = ((λ is. let no = unknown is in cc), bad-kept (same_option better o) e)
  where
    bad-kept : (b : Bool) → (if b then o ∷ rest else rest) ≡ [] → rest ≡ []
    bad-kept true e = cc
    bad-kept false e = e
unknown-kept false kind o Unknown rest unknown e = cc

kept-free : (kind : ℕ) (judge : ConfigOption → Verdict) (earlier list : List ConfigOption) → AllByRecursion (λ o. o.kind ≡ kind → judge o ≡ Unknown) list →
    rejected judge earlier list ≡ [] → IsFree kind list
kept-free kind judge earlier [] unknown none = refl
kept-free kind judge earlier (o ∷ os) unknown none =
    let kept = unknown-kept (has_kind o.kind earlier) kind o (judge o) (rejected judge (earlier ++ o ∷ []) os) unknown.0 none in
    free-cons kind o os kept.0 (kept-free kind judge (earlier ++ o ∷ []) os unknown.1 kept.1)

unknown-reply : (kind naks id : ℕ) (theirs refused better missing bad : List ConfigOption) → (refused ≡ [] → IsFree kind theirs) →
    AcksNothingOf kind (reply_with naks id theirs refused better missing bad).answer
unknown-reply kind naks id theirs [] [] [] bad free = free refl
unknown-reply kind naks id theirs [] [] (o ∷ missing) bad free = tt
unknown-reply kind naks id theirs [] (o ∷ better) missing bad free = acks-spent (is_spent naks)
  where
    acks-spent : (b : Bool) → AcksNothingOf kind (if b then refusing (Reject id (fitted bad)) else refusing (Nak id ((o ∷ better) ++ missing))).answer
    acks-spent true = tt
    acks-spent false = tt
unknown-reply kind naks id theirs (o ∷ refused) better missing bad free = tt

unknown-by : (found : Option Rule) (own : List ConfigOption) (body : List ℕ) (word : ℕ) → is_known_by found body ≡ false → verdict_by found own body word ≡ Unknown
unknown-by None own body word unknown = refl
unknown-by (Some r) own body word unknown = rw unknown refl

all-unknown : (rs : List Rule) (kind : ℕ) (own : List ConfigOption) (word : ℕ) (list : List ConfigOption) → ((body : List ℕ) → is_known_by (rule_of kind rs) body ≡ false) →
    AllByRecursion (λ o. o.kind ≡ kind → judge rs own o word ≡ Unknown) list
all-unknown rs kind own word [] unknown = tt
all-unknown rs kind own word (o ∷ os) unknown =
    ((λ is. unknown-by (rule_of o.kind rs) own o.body word (rw is (unknown o.body))), all-unknown rs kind own word os unknown)

pub unknown-answer : (extended : Bool) (rs : List Rule) (magic : List ConfigOption → ℕ) (kind : ℕ) (own : List ConfigOption) (naks word id : ℕ) (theirs : List ConfigOption) →
    ((body : List ℕ) → is_known_by (rule_of kind rs) body ≡ false) → AcksNothingOf kind (reply_to (table_by extended rs magic) own naks word id theirs).answer
unknown-answer extended rs magic kind own naks word id theirs unknown =
    let judged : ConfigOption → Verdict = λ o. judge rs own o word in
    unknown-reply kind naks id theirs (rejected judged [] theirs) (suggested judged theirs) (option_to_list (missing rs own theirs word)) (unacceptable judged theirs)
    (kept-free kind judged [] theirs (all-unknown rs kind own word theirs unknown))

-- A reply is no request.
no-request : (naks id : ℕ) (theirs refused better missing bad : List ConfigOption) (named : ℕ) (options : List ConfigOption) →
    (reply_with naks id theirs refused better missing bad).answer ≡ Request named options → ⊥
no-request naks id theirs [] [] [] bad named options is = cc
no-request naks id theirs [] [] (o ∷ missing) bad named options is = cc
no-request naks id theirs [] (o ∷ better) missing bad named options is = spent-asks (is_spent naks) is
  where
    spent-asks : (b : Bool) → (if b then refusing (Reject id (fitted bad)) else refusing (Nak id ((o ∷ better) ++ missing))).answer ≡ Request named options → ⊥
    spent-asks true is' = cc
    spent-asks false is' = cc
no-request naks id theirs (o ∷ refused) better missing bad named options is = cc

pub reply-asks-nothing : (t : Table) (own : List ConfigOption) (naks word id : ℕ) (theirs : List ConfigOption) (named : ℕ) (options : List ConfigOption) →
    (reply_to t own naks word id theirs).answer ≡ Request named options → ⊥
reply-asks-nothing t own naks word id theirs =
    let judged : ConfigOption → Verdict = λ o. t.judge own o word in
    no-request naks id theirs (rejected judged [] theirs) (suggested judged theirs) (option_to_list (t.missing own theirs word)) (unacceptable judged theirs)
