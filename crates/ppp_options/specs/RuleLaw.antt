-- A table of such rows keeps what a table of options has to keep.
use Rattle.std.proofs.Common.{◌≡◌, ℕ, ◌+◌, ◌<◌, ◌≤◌, ◌⊎◌, ◌↔◌, Bool, true, false, not, ◌&&◌, ◌||◌, List, [], ◌∷◌, ◌++◌, length, length-append, map, refl, sym, ap, ◌∙◌, subst, inl, inr, arith}
use Rattle.std.specs.Prelude.{◌==◌, nat_lt, nat_le, if◌then◌else◌, Option, Some, None, is_some}
use Rattle.std.specs.List.{list_all, list_any, cons_option}
use Rattle.std.specs.Option.{option_map}
use Rattle.std.proofs.lemmas.Bool.Decides.{nat_tests}
use Rattle.std.proofs.lemmas.List.Folds.{list_any-append}
use Rattle.ppp_packet.specs.ConfigOption.{ConfigOption}
use Rattle.ppp_packet.specs.Options.{written, option_with, find_kind}
use Rattle.ppp_auto.specs.OptionTable.{Table}
use Rattle.ppp_auto.specs.Reply.{has_kind}
use Rattle.ppp_auto.specs.Lawful.{Lawful, Passes, AllGood, NoneTwice}
use Rattle.ppp_auto.specs.declared.verdict.Verdict.{Verdict}
use Rattle.ppp_auto.specs.declared.verdict.Verdict.TheVariants.{Good, Bad, Unknown}
use Rattle.ppp_options.specs.Rule.{Rule, IsRule}
use Rattle.ppp_options.specs.Rules.{rule_of, first_option, initial, verdict_by, judge, missing, is_sent_by, is_sent, after_by, body_after, adapt_nak, without, requires_any, adapt_reject, table_by, rises, has_required, is_sendable, Sendable, is_known_by, IsUnknown, is_fine_by, is_fine, all_fine, Allows, is_set_by, is_set, IsAsked, are_ascending, AreRules, octets_of, IsTable}

-- a row that is found is one of the table's
found-head : (b : Bool) (x r : Rule) (rest : Option Rule) → (if b then Some x else rest) ≡ Some r → (x ≡ r) ⊎ (rest ≡ Some r)
found-head true x r rest e = inl cc
found-head false x r rest e = inr e

pub rule-is : (rs : List Rule) (kind : ℕ) (r : Rule) → AreRules rs → rule_of kind rs ≡ Some r → IsRule r
rule-is [] kind r each e = cc
rule-is (x ∷ xs) kind r each e =
    elim (found-head (x.kind == kind) x r (rule_of kind xs) e) [
      | inl same ↦ subst IsRule same each.0
      | inr later ↦ rule-is xs kind r each.1 later
    ]

pub rule-kind : (rs : List Rule) (kind : ℕ) (r : Rule) → rule_of kind rs ≡ Some r → r.kind ≡ kind
rule-kind [] kind r e = cc
rule-kind (x ∷ xs) kind r e = let rest = rule-kind xs kind r in grind (arith, nat_tests)

-- rows of which each is found at its Type
abbrev pub Finds : List Rule → List Rule → Type 0
Finds whole [] = Unit {0}
Finds whole (r ∷ rs) = (rule_of r.kind whole ≡ Some r) × Finds whole rs

other : (kind low : ℕ) → low < kind → (low == kind) ≡ false
other kind low h = grind (arith, nat_tests)

finds-more : (x : Rule) (low : ℕ) (whole rs : List Rule) → x.kind ≤ low → are_ascending low rs ≡ true →
    Finds whole rs → Finds (x ∷ whole) rs
finds-more x low whole [] h up finds = tt
finds-more x low whole (r ∷ rs) h up finds =
    let above : low < r.kind = grind (arith, nat_tests) in
    let rest : are_ascending r.kind rs ≡ true = grind (arith, nat_tests) in
    (rw (other r.kind x.kind (omega arith)) finds.0, finds-more x r.kind whole rs (omega arith) rest finds.1)

same : (n : ℕ) → (n == n) ≡ true
same n = grind (arith, nat_tests)

pub finds-self : (low : ℕ) (rs : List Rule) → are_ascending low rs ≡ true → Finds rs rs
finds-self low [] up = tt
finds-self low (r ∷ rs) up =
    let rest : are_ascending r.kind rs ≡ true = grind (arith, nat_tests) in
    (rw (same r.kind) refl, finds-more r r.kind rs rs (omega arith) rest (finds-self r.kind rs rest))

-- what is asked for first
cons-all : (p : ConfigOption → Bool) (o : Option ConfigOption) (list : List ConfigOption) →
    ((x : ConfigOption) → o ≡ Some x → p x ≡ true) → list_all p list ≡ true → list_all p (cons_option o list) ≡ true
cons-all p None list head rest = rest
cons-all p (Some x) list head rest = rw (head x refl) rest

first-parts : (kind : ℕ) (body : Option (List ℕ)) (o : ConfigOption) → option_map (λ b. option_with kind b) body ≡ Some o →
    (o.kind ≡ kind) × (body ≡ Some o.body)
first-parts kind None o e = cc
first-parts kind (Some b) o e = let k : option_with kind b ≡ o = cc in (sym (ap (λ (x : ConfigOption). x.kind) k), ap (λ (x : ConfigOption). Some x.body) k)

-- an option that a row asks for first passes a test that the row's first body passes
first-passes : (test : Option Rule → List ℕ → Bool) (whole : List Rule) (r : Rule) (word : ℕ) →
    rule_of r.kind whole ≡ Some r →
    ((body : List ℕ) → r.first word ≡ Some body → test (Some r) body ≡ true) →
    (o : ConfigOption) → first_option r word ≡ Some o → test (rule_of o.kind whole) o.body ≡ true
first-passes test whole r word found passes o e =
    let parts = first-parts r.kind (r.first word) o e in
    rw (parts.0, found) (passes o.body parts.1)

initial-all : (test : Option Rule → List ℕ → Bool) (whole rs : List Rule) (word : ℕ) →
    ((r : Rule) (body : List ℕ) → IsRule r → r.first word ≡ Some body → test (Some r) body ≡ true) → AreRules rs → Finds whole rs →
    list_all (λ o. test (rule_of o.kind whole) o.body) (initial rs word) ≡ true
initial-all test whole [] word passes each finds = refl
initial-all test whole (r ∷ rs) word passes each finds =
    cons-all (λ o. test (rule_of o.kind whole) o.body) (first_option r word) (initial rs word)
    (first-passes test whole r word finds.0 (λ body e. passes r body each.0 e))
    (initial-all test whole rs word passes each.1 finds.1)

cons-rises : (low kind : ℕ) (o : Option ConfigOption) (list : List ConfigOption) → low < kind →
    ((x : ConfigOption) → o ≡ Some x → x.kind ≡ kind) → rises kind list ≡ true → rises low (cons_option o list) ≡ true
cons-rises low kind None [] h is rest = refl
cons-rises low kind None (o ∷ os) h is rest = grind (arith, nat_tests)
cons-rises low kind (Some x) list h is rest = let e = is x refl in grind (arith, nat_tests)

initial-rises : (low : ℕ) (rs : List Rule) (word : ℕ) → are_ascending low rs ≡ true → rises low (initial rs word) ≡ true
initial-rises low [] word up = refl
initial-rises low (r ∷ rs) word up =
    let above : low < r.kind = grind (arith, nat_tests) in
    let rest : are_ascending r.kind rs ≡ true = grind (arith, nat_tests) in
    cons-rises low r.kind (first_option r word) (initial rs word) above
    (λ x e. (first-parts r.kind (r.first word) x e).0) (initial-rises r.kind rs word rest)

has_required-more : (rs : List Rule) (o : Option ConfigOption) (list : List ConfigOption) →
    has_required rs list ≡ true → has_required rs (cons_option o list) ≡ true
has_required-more [] o list h = refl
has_required-more (r ∷ rs) None list h = h
has_required-more (r ∷ rs) (Some x) list h =
    let rest = has_required-more rs (Some x) list in grind (arith, nat_tests)

cons-has : (kind : ℕ) (body : Option (List ℕ)) (list : List ConfigOption) → is_some body ≡ true →
    has_kind kind (cons_option (option_map (λ b. option_with kind b) body) list) ≡ true
cons-has kind None list h = cc
cons-has kind (Some b) list h = grind (arith, nat_tests)

required-by : (required has rest : Bool) → (required ≡ true → has ≡ true) → rest ≡ true →
    ((not required || has) && rest) ≡ true
required-by required has rest there more = grind arith

initial-required : (rs : List Rule) (word : ℕ) → AreRules rs → has_required rs (initial rs word) ≡ true
initial-required [] word each = refl
initial-required (r ∷ rs) word each =
    let rest = has_required-more rs (first_option r word) (initial rs word) (initial-required rs word each.1) in
    let there = cons-has r.kind (r.first word) (initial rs word) in
    let first = each.0.first_there in
    required-by r.required (has_kind r.kind (initial (r ∷ rs) word)) (has_required rs (initial (r ∷ rs) word)) (λ q. there (first q word)) rest

-- after a Nak
after-sent : (rs : List Rule) (found : Option Rule) (last nak : List ℕ) (word : ℕ) →
    ((r : Rule) → found ≡ Some r → IsRule r) →
    is_sent_by found last ≡ true → is_sent_by found (after_by found last nak word) ≡ true
after-sent rs None last nak word is h = h
after-sent rs (Some r) last nak word is h = (is r refl).after_sent last nak word h

after-set : (rs : List Rule) (found : Option Rule) (last nak : List ℕ) (word : ℕ) → ((r : Rule) → found ≡ Some r → IsRule r) →
    is_sent_by found last ≡ true → is_set_by found last ≡ true → is_set_by found (after_by found last nak word) ≡ true
after-set rs None last nak word is h k = k
after-set rs (Some r) last nak word is h k = (is r refl).after_set last nak word h k

pub after-long : (found : Option Rule) (last nak : List ℕ) (word : ℕ) → ((r : Rule) → found ≡ Some r → IsRule r) →
    is_sent_by found last ≡ true → length (after_by found last nak word) ≡ length last
after-long None last nak word is h = refl
after-long (Some r) last nak word is h = (is r refl).after_long last nak word h

body-sent : (rs : List Rule) (nak : Option (List ℕ)) (word : ℕ) (o : ConfigOption) → AreRules rs →
    is_sent rs o ≡ true → is_sent_by (rule_of o.kind rs) (body_after rs nak word o) ≡ true
body-sent rs None word o each h = h
body-sent rs (Some nak) word o each h =
    rw h (after-sent rs (rule_of o.kind rs) o.body nak word (λ r e. rule-is rs o.kind r each e) h)

body-set : (rs : List Rule) (nak : Option (List ℕ)) (word : ℕ) (o : ConfigOption) → AreRules rs →
    is_sent rs o ≡ true → is_set rs o ≡ true → is_set_by (rule_of o.kind rs) (body_after rs nak word o) ≡ true
body-set rs None word o each h k = k
body-set rs (Some nak) word o each h k =
    rw h (after-set rs (rule_of o.kind rs) o.body nak word (λ r e. rule-is rs o.kind r each e) h k)

if-long : (b : Bool) (xs ys : List ℕ) → (b ≡ true → length xs ≡ length ys) → length (if b then xs else ys) ≡ length ys
if-long true xs ys h = h refl
if-long false xs ys h = refl

-- a Nak changes no length
pub length-body_after : (rs : List Rule) (nak : Option (List ℕ)) (word : ℕ) (o : ConfigOption) → AreRules rs →
    length (body_after rs nak word o) ≡ length o.body
length-body_after rs None word o each = refl
length-body_after rs (Some nak) word o each =
    if-long (is_sent rs o) (after_by (rule_of o.kind rs) o.body nak word) o.body
    (after-long (rule_of o.kind rs) o.body nak word (λ r e. rule-is rs o.kind r each e))

pub and-both : (a b : Bool) → (a && b) ≡ true → (a ≡ true) × (b ≡ true)
and-both true b h = (refl, h)
and-both false b h = cc

pub both-and : (a b : Bool) → a ≡ true → b ≡ true → (a && b) ≡ true
both-and a b h k = rw h k

nak-rises : (low : ℕ) (rs : List Rule) (last nak : List ConfigOption) (word : ℕ) →
    rises low (adapt_nak rs last nak word) ≡ rises low last
nak-rises low rs [] nak word = refl
nak-rises low rs (o ∷ os) nak word = rw (nak-rises o.kind rs os nak word) refl

nak-sent : (rs : List Rule) (last nak : List ConfigOption) (word : ℕ) → AreRules rs →
    list_all (is_sent rs) last ≡ true → list_all (is_sent rs) (adapt_nak rs last nak word) ≡ true
nak-sent rs [] nak word each h = refl
nak-sent rs (o ∷ os) nak word each h =
    let both = and-both (is_sent rs o) (list_all (is_sent rs) os) h in
    both-and _ _ (body-sent rs (find_kind o.kind nak) word o each both.0) (nak-sent rs os nak word each both.1)

nak-set : (rs : List Rule) (last nak : List ConfigOption) (word : ℕ) → AreRules rs → list_all (is_sent rs) last ≡ true →
    list_all (is_set rs) last ≡ true → list_all (is_set rs) (adapt_nak rs last nak word) ≡ true
nak-set rs [] nak word each h k = refl
nak-set rs (o ∷ os) nak word each h k =
    let sent = and-both (is_sent rs o) (list_all (is_sent rs) os) h in
    let set = and-both (is_set rs o) (list_all (is_set rs) os) k in
    both-and _ _ (body-set rs (find_kind o.kind nak) word o each sent.0 set.0) (nak-set rs os nak word each sent.1 set.1)

nak-has : (kind : ℕ) (rs : List Rule) (last nak : List ConfigOption) (word : ℕ) →
    has_kind kind (adapt_nak rs last nak word) ≡ has_kind kind last
nak-has kind rs [] nak word = refl
nak-has kind rs (o ∷ os) nak word = rw (nak-has kind rs os nak word) refl

nak-required : (rs table : List Rule) (last nak : List ConfigOption) (word : ℕ) →
    has_required rs (adapt_nak table last nak word) ≡ has_required rs last
nak-required [] table last nak word = refl
nak-required (r ∷ rs) table last nak word = rw (nak-has r.kind table last nak word, nak-required rs table last nak word) refl

-- after a Reject
if-all : (p : ConfigOption → Bool) (b : Bool) (o : ConfigOption) (rest : List ConfigOption) → p o ≡ true →
    list_all p rest ≡ true →
    list_all p (if b then o ∷ rest else rest) ≡ true
if-all p true o rest h k = rw h k
if-all p false o rest h k = k

without-all : (p : ConfigOption → Bool) (last reject : List ConfigOption) → list_all p last ≡ true →
    list_all p (without last reject) ≡ true
without-all p [] reject h = refl
without-all p (o ∷ os) reject h =
    let both = and-both (p o) (list_all p os) h in
    if-all p (not (has_kind o.kind reject)) o (without os reject) both.0 (without-all p os reject both.1)

rises-lower : (low high : ℕ) (list : List ConfigOption) → low ≤ high → rises high list ≡ true → rises low list ≡ true
rises-lower low high [] h up = refl
rises-lower low high (o ∷ os) h up = grind (arith, nat_tests)

if-rises : (b : Bool) (low : ℕ) (o : ConfigOption) (rest : List ConfigOption) → nat_lt low o.kind ≡ true →
    rises o.kind rest ≡ true →
    rises low (if b then o ∷ rest else rest) ≡ true
if-rises true low o rest h up = rw h up
if-rises false low o rest h up = rises-lower low o.kind rest (grind (arith, nat_tests)) up

without-rises : (low : ℕ) (last reject : List ConfigOption) → rises low last ≡ true → rises low (without last reject) ≡ true
without-rises low [] reject up = refl
without-rises low (o ∷ os) reject up =
    let both = and-both (nat_lt low o.kind) (rises o.kind os) up in
    if-rises (not (has_kind o.kind reject)) low o (without os reject) both.0 (without-rises o.kind os reject both.1)

none-required : (rs : List Rule) (list : List ConfigOption) → requires_any rs ≡ false → has_required rs list ≡ true
none-required [] list h = refl
none-required (r ∷ rs) list h = let rest = none-required rs list in grind (arith, nat_tests)

-- The three tests of a list that may be asked for.
pub parts-of : (rs : List Rule) (list : List ConfigOption) → is_sendable rs list ≡ true →
    (rises 0 list ≡ true) × (list_all (is_sent rs) list ≡ true) × (has_required rs list ≡ true)
parts-of rs list h =
    let one = and-both _ _ h in let two = and-both _ _ one.0 in (two.0, two.1, one.1)

of-parts : (rs : List Rule) (list : List ConfigOption) → rises 0 list ≡ true → list_all (is_sent rs) list ≡ true →
    has_required rs list ≡ true →
    is_sendable rs list ≡ true
of-parts rs list up sent required = both-and _ _ (both-and _ _ up sent) required

pub first_sent : (rs : List Rule) → IsTable rs → (word : ℕ) → Sendable rs (initial rs word)
first_sent rs t word =
    of-parts rs (initial rs word) (initial-rises 0 rs word t.ascending)
    (initial-all is_sent_by rs rs word (λ r body is e. is.first_sent word body e) t.each (finds-self 0 rs t.ascending))
    (initial-required rs word t.each)

pub after_nak_sent : (rs : List Rule) → IsTable rs → (last nak : List ConfigOption) (word : ℕ) → Sendable rs last →
    Sendable rs (adapt_nak rs last nak word)
after_nak_sent rs t last nak word h =
    let p = parts-of rs last h in
    of-parts rs (adapt_nak rs last nak word) (nak-rises 0 rs last nak word ∙ p.0) (nak-sent rs last nak word t.each p.1) (nak-required rs rs last nak word ∙ p.2)

reject-by : (rs : List Rule) (any : Bool) (last reject : List ConfigOption) → requires_any rs ≡ any → Sendable rs last →
    Sendable rs (if any then last else without last reject)
reject-by rs true last reject any h = h
reject-by rs false last reject any h =
    let p = parts-of rs last h in
    of-parts rs (without last reject) (without-rises 0 last reject p.0) (without-all (is_sent rs) last reject p.1) (none-required rs (without last reject) any)

pub after_reject_sent : (rs : List Rule) (last reject : List ConfigOption) (word : ℕ) → Sendable rs last →
    Sendable rs (adapt_reject rs last reject word)
after_reject_sent rs last reject word h = reject-by rs (requires_any rs) last reject refl h

-- The lists that are asked for keep what the settings give.
set-by : (rs : List Rule) (any : Bool) (last reject : List ConfigOption) → list_all (is_set rs) last ≡ true →
    list_all (is_set rs) (if any then last else without last reject) ≡ true
set-by rs true last reject h = h
set-by rs false last reject h = without-all (is_set rs) last reject h

pub first_asked : (rs : List Rule) → IsTable rs → (word : ℕ) → IsAsked rs (initial rs word)
first_asked rs t word =
    both-and _ _ (first_sent rs t word)
    (initial-all is_set_by rs rs word (λ r body is e. is.first_set word body e) t.each (finds-self 0 rs t.ascending))

pub after_nak_asked : (rs : List Rule) → IsTable rs → (last nak : List ConfigOption) (word : ℕ) → IsAsked rs last →
    IsAsked rs (adapt_nak rs last nak word)
after_nak_asked rs t last nak word h =
    let both = and-both (is_sendable rs last) (list_all (is_set rs) last) h in
    both-and _ _ (after_nak_sent rs t last nak word both.0) (nak-set rs last nak word t.each (parts-of rs last both.0).1 both.1)

pub after_reject_asked : (rs : List Rule) (last reject : List ConfigOption) (word : ℕ) → IsAsked rs last →
    IsAsked rs (adapt_reject rs last reject word)
after_reject_asked rs last reject word h =
    let both = and-both (is_sendable rs last) (list_all (is_set rs) last) h in
    both-and _ _ (after_reject_sent rs last reject word both.0) (set-by rs (requires_any rs) last reject both.1)

-- verdicts
unknown-verdict : (known good : Bool) (better : ConfigOption) →
    ((if not known then Unknown else if good then Good else Bad better) ≡ Unknown) ↔ (known ≡ false)
unknown-verdict true true better = (λ e. cc, λ e. cc)
unknown-verdict true false better = (λ e. cc, λ e. cc)
unknown-verdict false good better = (λ e. refl, λ e. refl)

good-verdict : (known good : Bool) (better : ConfigOption) →
    ((if not known then Unknown else if good then Good else Bad better) ≡ Good) ↔ ((known && good) ≡ true)
good-verdict true true better = (λ e. refl, λ e. refl)
good-verdict true false better = (λ e. cc, λ e. cc)
good-verdict false good better = (λ e. cc, λ e. cc)

pub bad-verdict : (known good : Bool) (better found : ConfigOption) →
    (if not known then Unknown else if good then Good else Bad better) ≡ Bad found → better ≡ found
bad-verdict true true better found e = cc
bad-verdict true false better found e = cc
bad-verdict false good better found e = cc

missing-by : (required has : Bool) (o : ConfigOption) (rest : Option ConfigOption) (whole : Bool) →
    (rest ≡ None) ↔ (whole ≡ true) →
    ((if required && not has then Some o else rest) ≡ None) ↔ (((not required || has) && whole) ≡ true)
missing-by true true o rest whole h = h
missing-by true false o rest whole h = (λ e. cc, λ e. cc)
missing-by false has o rest whole h = h

some-by : (b : Bool) (o x : ConfigOption) (rest more : Option ConfigOption) → is_some rest ≡ is_some more →
    is_some (if b then Some o else rest) ≡ is_some (if b then Some x else more)
some-by true o x rest more h = refl
some-by false o x rest more h = h

missed-by : (b : Bool) (o missed : ConfigOption) (rest : Option ConfigOption) →
    (if b then Some o else rest) ≡ Some missed → (o ≡ missed) ⊎ (rest ≡ Some missed)
missed-by true o missed rest e = inl cc
missed-by false o missed rest e = inr e

not-true : (b : Bool) → not b ≡ true → b ≡ false
not-true true h = cc
not-true false h = refl

unknown-by : (found : Option Rule) (own : List ConfigOption) (body : List ℕ) (word : ℕ) →
    (verdict_by found own body word ≡ Unknown) ↔ (is_known_by found body ≡ false)
unknown-by None own body word = (λ e. refl, λ e. refl)
unknown-by (Some r) own body word = unknown-verdict (r.is_known body) (r.is_good own body) (option_with r.kind (r.better own body word))

good-by : (found : Option Rule) (own : List ConfigOption) (body : List ℕ) (word : ℕ) →
    (verdict_by found own body word ≡ Good) ↔ (is_fine_by found own body ≡ true)
good-by None own body word = (λ e. cc, λ e. cc)
good-by (Some r) own body word = good-verdict (r.is_known body) (r.is_good own body) (option_with r.kind (r.better own body word))

better-by : (found : Option Rule) (own : List ConfigOption) (body : List ℕ) (word : ℕ) (better : ConfigOption) →
    ((r : Rule) → found ≡ Some r → IsRule r) →
    verdict_by found own body word ≡ Bad better → length better.body ≤ 32
better-by None own body word better is e = cc
better-by (Some r) own body word better is e =
    let same = bad-verdict (r.is_known body) (r.is_good own body) (option_with r.kind (r.better own body word)) better e in
    subst (λ (o : ConfigOption). length o.body ≤ 32) same ((is r refl).better_short own body word)

unknown_is : (rs : List Rule) (own : List ConfigOption) (o : ConfigOption) (word : ℕ) →
    (judge rs own o word ≡ Unknown) ↔ IsUnknown rs o
unknown_is rs own o word = unknown-by (rule_of o.kind rs) own o.body word

good_is : (rs : List Rule) (own : List ConfigOption) (o : ConfigOption) (word : ℕ) →
    (judge rs own o word ≡ Good) ↔ (is_fine rs own o ≡ true)
good_is rs own o word = good-by (rule_of o.kind rs) own o.body word

good_always : (rs : List Rule) (own : List ConfigOption) (o : ConfigOption) (word next : ℕ) →
    judge rs own o word ≡ Good → judge rs own o next ≡ Good
good_always rs own o word next e = (good_is rs own o next).1 ((good_is rs own o word).0 e)

better_short : (rs : List Rule) → AreRules rs → (own : List ConfigOption) (o better : ConfigOption) (word : ℕ) →
    judge rs own o word ≡ Bad better → length better.body ≤ 32
better_short rs each own o better word e = better-by (rule_of o.kind rs) own o.body word better (λ r found. rule-is rs o.kind r each found) e

-- what is missing
missing-if : (rs : List Rule) (own theirs : List ConfigOption) (word : ℕ) →
    (missing rs own theirs word ≡ None) ↔ (has_required rs theirs ≡ true)
missing-if [] own theirs word = (λ e. refl, λ e. refl)
missing-if (r ∷ rs) own theirs word =
    missing-by r.required (has_kind r.kind theirs) (option_with r.kind (r.better own [] word)) (missing rs own theirs word) (has_required rs theirs) (missing-if rs own theirs word)

missing_always : (rs : List Rule) (own theirs : List ConfigOption) (word next : ℕ) →
    is_some (missing rs own theirs word) ≡ is_some (missing rs own theirs next)
missing_always [] own theirs word next = refl
missing_always (r ∷ rs) own theirs word next =
    some-by (r.required && not (has_kind r.kind theirs)) _ _ _ _ (missing_always rs own theirs word next)

missing_short : (rs : List Rule) (own theirs : List ConfigOption) (missed : ConfigOption) (word : ℕ) → AreRules rs →
    missing rs own theirs word ≡ Some missed → length missed.body ≤ 32
missing_short [] own theirs missed word each e = cc
missing_short (r ∷ rs) own theirs missed word each e =
    elim (missed-by (r.required && not (has_kind r.kind theirs)) (option_with r.kind (r.better own [] word)) missed (missing rs own theirs word) e) [
      | inl here ↦ subst (λ (o : ConfigOption). length o.body ≤ 32) here (each.0.better_short own [] word)
      | inr later ↦ missing_short rs own theirs missed word each.1 later
    ]

-- the lists that pass
passes-fine : (rs : List Rule) (table : Table) (own earlier theirs : List ConfigOption) (word : ℕ) →
    table.judge ≡ judge rs → AllGood table own word theirs → NoneTwice earlier theirs →
    all_fine rs own earlier theirs ≡ true
passes-fine rs table own earlier [] word by good once = refl
passes-fine rs table own earlier (o ∷ os) word by good once =
    let fine : is_fine rs own o ≡ true = (good_is rs own o word).0 (sym (ap (λ (j : List ConfigOption → ConfigOption → ℕ → Verdict). j own o word) by) ∙ good.0) in
    both-and _ _ (both-and _ _ fine (ap not once.0)) (passes-fine rs table own (earlier ++ o ∷ []) os word by good.1 once.1)

fine-good : (extended : Bool) (rs : List Rule) (magic : List ConfigOption → ℕ)
    (own earlier theirs : List ConfigOption) (word : ℕ) → all_fine rs own earlier theirs ≡ true →
    AllGood (table_by extended rs magic) own word theirs
fine-good extended rs magic own earlier [] word h = tt
fine-good extended rs magic own earlier (o ∷ os) word h =
    let one = and-both _ _ h in let two = and-both _ _ one.0 in
    ((good_is rs own o word).1 two.0, fine-good extended rs magic own (earlier ++ o ∷ []) os word one.1)

fine-once : (rs : List Rule) (own earlier theirs : List ConfigOption) → all_fine rs own earlier theirs ≡ true →
    NoneTwice earlier theirs
fine-once rs own earlier [] h = tt
fine-once rs own earlier (o ∷ os) h =
    let one = and-both _ _ h in let two = and-both _ _ one.0 in
    (not-true _ two.1, fine-once rs own (earlier ++ o ∷ []) os one.1)

pub allows_is : (extended : Bool) (rs : List Rule) (magic : List ConfigOption → ℕ) (own theirs : List ConfigOption)
    (word : ℕ) → Allows rs own theirs ↔ Passes (table_by extended rs magic) own theirs word
allows_is extended rs magic own theirs word = (
  λ h. let both = and-both (all_fine rs own [] theirs) (has_required rs theirs) h in
      record { good = fine-good extended rs magic own [] theirs word both.0; once = fine-once rs own [] theirs both.0; whole = (missing-if rs own theirs word).1 both.1 },
  λ h. both-and _ _ (passes-fine rs (table_by extended rs magic) own [] theirs word refl h.good h.once) ((missing-if rs own theirs word).0 h.whole),
)

-- A list in which no Type stands twice, and each option is no longer than its row says, has at most the octets of the rows.
abbrev fits_by : Option Rule → List ℕ → Bool
fits_by None body = false
fits_by (Some r) body = nat_le (2 + length body) r.most

abbrev fits : List Rule → ConfigOption → Bool
fits rs o = fits_by (rule_of o.kind rs) o.body

abbrev room : List Rule → List ConfigOption → ℕ
room [] earlier = 0
room (r ∷ rs) earlier = (if has_kind r.kind earlier then 0 else r.most) + room rs earlier

room-less : (rs : List Rule) (earlier : List ConfigOption) (o : ConfigOption) → room rs (earlier ++ o ∷ []) ≤ room rs earlier
room-less [] earlier o = omega arith
room-less (r ∷ rs) earlier o =
    let rest = room-less rs earlier o in
    let more = list_any-append (λ (x : ConfigOption). x.kind == r.kind) earlier (o ∷ []) in
    grind (arith, nat_tests)

room-drop : (rs : List Rule) (earlier : List ConfigOption) (o : ConfigOption) → fits rs o ≡ true →
    has_kind o.kind earlier ≡ false →
    (2 + length o.body) + room rs (earlier ++ o ∷ []) ≤ room rs earlier
room-drop [] earlier o h once = cc
room-drop (r ∷ rs) earlier o h once =
    let less = room-less rs earlier o in
    let rest = room-drop rs earlier o in
    let more = list_any-append (λ (x : ConfigOption). x.kind == r.kind) earlier (o ∷ []) in
    grind (arith, nat_tests)

fits-within : (rs : List Rule) (earlier list : List ConfigOption) → list_all (fits rs) list ≡ true →
    NoneTwice earlier list → length (written list) ≤ room rs earlier
fits-within rs earlier [] h once = omega arith
fits-within rs earlier (o ∷ os) h once =
    let both = and-both (fits rs o) (list_all (fits rs) os) h in
    let rest = fits-within rs (earlier ++ o ∷ []) os both.1 once.1 in
    let drop = room-drop rs earlier o both.0 once.0 in
    let long = length-append o.body (written os) in omega arith

room-all : (rs : List Rule) → room rs [] ≡ octets_of rs
room-all [] = refl
room-all (r ∷ rs) = rw (room-all rs) refl

sent-fits : (found : Option Rule) (body : List ℕ) → ((r : Rule) → found ≡ Some r → IsRule r) →
    is_sent_by found body ≡ true → fits_by found body ≡ true
sent-fits None body is h = h
sent-fits (Some r) body is h = let short = (is r refl).sent_short body h in grind (arith, nat_tests)

fine-fits : (found : Option Rule) (own : List ConfigOption) (body : List ℕ) →
    ((r : Rule) → found ≡ Some r → IsRule r) → is_fine_by found own body ≡ true → fits_by found body ≡ true
fine-fits None own body is h = h
fine-fits (Some r) own body is h =
    let both = and-both (r.is_known body) (r.is_good own body) h in
    let short = (is r refl).good_short own body both.0 both.1 in grind (arith, nat_tests)

all-sent-fit : (rs : List Rule) (list : List ConfigOption) → AreRules rs → list_all (is_sent rs) list ≡ true →
    list_all (fits rs) list ≡ true
all-sent-fit rs [] each h = refl
all-sent-fit rs (o ∷ os) each h =
    let both = and-both (is_sent rs o) (list_all (is_sent rs) os) h in
    both-and _ _ (sent-fits (rule_of o.kind rs) o.body (λ r e. rule-is rs o.kind r each e) both.0) (all-sent-fit rs os each both.1)

all-fine-fit : (rs : List Rule) (own earlier theirs : List ConfigOption) → AreRules rs →
    all_fine rs own earlier theirs ≡ true → list_all (fits rs) theirs ≡ true
all-fine-fit rs own earlier [] each h = refl
all-fine-fit rs own earlier (o ∷ os) each h =
    let one = and-both _ _ h in let two = and-both _ _ one.0 in
    both-and _ _ (fine-fits (rule_of o.kind rs) own o.body (λ r e. rule-is rs o.kind r each e) two.0) (all-fine-fit rs own (earlier ++ o ∷ []) os each one.1)

-- in ascending Types none stands twice
abbrev none_above : ℕ → List ConfigOption → Bool
none_above low [] = true
none_above low (o ∷ os) = nat_le o.kind low && none_above low os

above-lacks : (low kind : ℕ) (earlier : List ConfigOption) → low < kind → none_above low earlier ≡ true →
    has_kind kind earlier ≡ false
above-lacks low kind [] h below = refl
above-lacks low kind (o ∷ os) h below = let rest = above-lacks low kind os in grind (arith, nat_tests)

none_above-more : (low : ℕ) (earlier : List ConfigOption) (o : ConfigOption) → low < o.kind →
    none_above low earlier ≡ true → none_above o.kind (earlier ++ o ∷ []) ≡ true
none_above-more low [] o h below = grind (arith, nat_tests)
none_above-more low (x ∷ xs) o h below = let rest = none_above-more low xs o h in grind (arith, nat_tests)

pub rises-once : (low : ℕ) (earlier list : List ConfigOption) → none_above low earlier ≡ true → rises low list ≡ true →
    NoneTwice earlier list
rises-once low earlier [] below up = tt
rises-once low earlier (o ∷ os) below up =
    let both = and-both (nat_lt low o.kind) (rises o.kind os) up in
    let above : low < o.kind = grind (arith, nat_tests) in
    (above-lacks low o.kind earlier above below, rises-once o.kind (earlier ++ o ∷ []) os (none_above-more low earlier o above below) both.1)

pub sent_short : (rs : List Rule) → IsTable rs → (list : List ConfigOption) → Sendable rs list → length (written list) ≤ 128
sent_short rs t list h =
    let p = parts-of rs list h in
    let within = fits-within rs [] list (all-sent-fit rs list t.each p.1) (rises-once 0 [] list refl p.0) in
    let all = room-all rs in let most = t.fits in omega arith

allowed_short : (rs : List Rule) → IsTable rs → (own theirs : List ConfigOption) → Allows rs own theirs →
    length (written theirs) ≤ 128
allowed_short rs t own theirs h =
    let both = and-both (all_fine rs own [] theirs) (has_required rs theirs) h in
    let within = fits-within rs [] theirs (all-fine-fit rs own [] theirs t.each both.0) (fine-once rs own [] theirs both.0) in
    let all = room-all rs in let most = t.fits in omega arith

-- every other Type is unknown
unknown-lacks : (rs : List Rule) (kind : ℕ) →
    (rule_of kind rs ≡ None) ⊎ (list_any (λ k. k == kind) (map (λ r. r.kind) rs) ≡ true)
unknown-lacks [] kind = inl refl
unknown-lacks (r ∷ rs) kind = let rest = unknown-lacks rs kind in grind (arith, nat_tests)

kinds_all : (rs : List Rule) (o : ConfigOption) → IsUnknown rs o ⊎ (list_any (λ k. k == o.kind) (map (λ r. r.kind) rs) ≡ true)
kinds_all rs o =
    elim (unknown-lacks rs o.kind) [
      | inl none ↦ inl (rw none refl)
      | inr there ↦ inr there
    ]

length-kinds : (rs : List Rule) → length (map (λ r. r.kind) rs) ≡ length rs
length-kinds [] = refl
length-kinds (r ∷ rs) = rw (length-kinds rs) refl

-- A table of such rows is lawful, with any condition on the two lists that follows where one allows the other.
pub rules_lawful : (extended : Bool) (rs : List Rule) (magic : List ConfigOption → ℕ)
    (compat : List ConfigOption → List ConfigOption → Type 0) → IsTable rs →
    ((own theirs : List ConfigOption) → Sendable rs own → Allows rs own theirs → compat own theirs) →
    ((one other : List ConfigOption) → compat one other → compat other one) →
    Lawful (table_by extended rs magic) (Sendable rs) (IsUnknown rs) (Allows rs) compat
rules_lawful extended rs magic compat t fits both_ways = record {
  first_sent = first_sent rs t;
  after_nak_sent = after_nak_sent rs t;
  after_reject_sent = after_reject_sent rs;
  unknown_is = unknown_is rs;
  allows_is = λ own theirs word sends. allows_is extended rs magic own theirs word;
  good_always = good_always rs;
  missing_always = missing_always rs;
  allowed_fits = fits;
  fits_both_ways = both_ways;
  sent_short = sent_short rs t;
  allowed_short = λ own theirs sends. allowed_short rs t own theirs;
  better_short = better_short rs t.each;
  missing_short = λ own theirs missed word. missing_short rs own theirs missed word t.each;
  kinds = map (λ r. r.kind) rs;
  kinds_few = let few = t.few in let same = length-kinds rs in omega arith;
  kinds_all = kinds_all rs;
}
