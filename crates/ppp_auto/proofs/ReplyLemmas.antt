-- What answers a request, and that it isn't too long.
use Rattle.std.proofs.Common.{◌≡◌, ◌≢◌, ℕ, ◌+◌, ◌*◌, ◌≤◌, ◌⊎◌, Bool, true, false, ◌||◌, ◌&&◌, ◌==◌, if◌then◌else◌, List, [], ◌∷◌, ◌++◌, length, Option, Some, None, refl, ap, sym, ◌∙◌, arith, length-append, inl, inr}
use Rattle.std.specs.List.{list_any}
use Rattle.std.specs.Option.{option_to_list}
use Rattle.std.proofs.lemmas.List.Folds.{list_any-append}
use Rattle.std.proofs.lemmas.Bool.{eq-eqb, eqb-true}
use Rattle.std.proofs.lemmas.Bool.Decides.{eqb_tells}
use Rattle.std.proofs.Math.Bool.{or-false}
use Rattle.ppp_packet.proofs.OptionLemmas.{written-append, list_of-written}
use Rattle.ppp_packet.specs.ConfigOption.{ConfigOption}
use Rattle.ppp_packet.specs.Options.{written, list_of}
use Rattle.ppp_auto.specs.declared.input.Input.TheVariants.{ReceiveConfigureRequestGood, ReceiveConfigureRequestBad}
use Rattle.ppp_auto.specs.declared.judged.Judged.{Judged}
use Rattle.ppp_auto.specs.declared.outbox.TheConstants.{MOST_REST}
use Rattle.ppp_auto.specs.declared.verdict.Verdict.{Verdict}
use Rattle.ppp_auto.specs.declared.verdict.Verdict.TheVariants.{Good, Bad, Unknown}
use Rattle.ppp_auto.specs.Judged.{AreSettled, gathered, IsSettled, judging_by}
use Rattle.ppp_auto.specs.Lawful.{Lawful, Passes, AllGood, NoneTwice}
use Rattle.ppp_auto.specs.OptionTable.{Table}
use Rattle.ppp_auto.specs.Packet.{Packet, Ack, Nak, Reject}
use Rattle.ppp_auto.specs.Reply.{better_of, fitting, has_kind, has_options, is_refused, is_spent, refusing, rejected, reply_with, suggested, unacceptable}
use Rattle.ppp_auto.proofs.FrontLemmas.{front_all}
use Rattle.ppp_auto.proofs.JudgedLemmas.{nothing, something}

-- what isn't rejected
pub record IsClean (spent : Bool) (refused better missing bad : List ConfigOption) : Type 0 where
  pub none : refused ≡ []
  pub all : gathered spent refused better missing bad ≡ better ++ missing

pub clean_settled : (spent : Bool) (refused better missing bad : List ConfigOption) (j : Judged) → IsSettled spent refused better missing bad j → (j.refused || (j.bad && j.spent)) ≡ false → IsClean spent refused better missing bad
clean_settled spent (x ∷ xs) better missing bad j h r = absurd (something j.refused j.bad j.spent (inl h.refuses) r)
clean_settled true [] (x ∷ xs) missing bad j h r = absurd (something j.refused j.bad j.spent (inr (h.suggests refl, h.spends)) r)
clean_settled true [] [] missing bad j h r = record { none = refl; all = refl }
clean_settled false [] better missing bad j h r = record { none = refl; all = refl }

-- the reply, where options are rejected
pub reply_rejecting : (naks id : ℕ) (theirs : List ConfigOption) (spent : Bool) (refused better missing bad : List ConfigOption) (j : Judged) → is_spent naks ≡ spent → IsSettled spent refused better missing bad j →
    (j.refused || (j.bad && j.spent)) ≡ true → reply_with naks id theirs refused better missing bad ≡ refusing (Reject id (fitting MOST_REST (gathered spent refused better missing bad)))
reply_rejecting naks id theirs spent (x ∷ xs) better missing bad j s h r = refl
reply_rejecting naks id theirs true [] (x ∷ xs) missing bad j s h r = rw s refl
reply_rejecting naks id theirs true [] [] missing bad j s h r = absurd (nothing j.refused j.bad j.spent h.refuses (inl (h.suggests refl)) r)
reply_rejecting naks id theirs false [] better missing bad j s h r = absurd (nothing j.refused j.bad j.spent h.refuses (inr h.spends) r)

-- where nothing is
pub reply_clean : (naks id : ℕ) (theirs : List ConfigOption) (spent : Bool) (refused better missing bad : List ConfigOption) (j : Judged) → is_spent naks ≡ spent → IsSettled spent refused better missing bad j →
    (j.refused || (j.bad && j.spent)) ≡ false → (better ++ missing ≢ []) → reply_with naks id theirs refused better missing bad ≡ refusing (Nak id (better ++ missing))
reply_clean naks id theirs spent (x ∷ xs) better missing bad j s h r n = absurd (something j.refused j.bad j.spent (inl h.refuses) r)
reply_clean naks id theirs spent [] [] [] bad j s h r n = absurd (n refl)
reply_clean naks id theirs spent [] [] (o ∷ os) bad j s h r n = refl
reply_clean naks id theirs true [] (x ∷ xs) missing bad j s h r n = absurd (something j.refused j.bad j.spent (inr (h.suggests refl, h.spends)) r)
reply_clean naks id theirs false [] (x ∷ xs) missing bad j s h r n = rw s refl

pub reply_good : (naks id : ℕ) (theirs refused better missing bad : List ConfigOption) → refused ≡ [] → better ++ missing ≡ [] →
    reply_with naks id theirs refused better missing bad ≡ record { input = ReceiveConfigureRequestGood; answer = Ack id theirs }
reply_good naks id theirs [] [] [] bad f n = refl
reply_good naks id theirs [] [] (o ∷ os) bad f n = cc
reply_good naks id theirs [] (o ∷ os) missing bad f n = cc
reply_good naks id theirs (o ∷ os) better missing bad f n = cc

-- the list that is judged against may be sent
pub judging_sent : (sendable : List ConfigOption → Type 0) (stopped : Bool) (first own : List ConfigOption) → sendable first → sendable own → sendable (if stopped then first else own)
judging_sent sendable true first own h k = h
judging_sent sendable false first own h k = k

-- a reply is one of two events
pub reply_input : (naks id : ℕ) (theirs refused better missing bad : List ConfigOption) →
    ((reply_with naks id theirs refused better missing bad).input ≡ ReceiveConfigureRequestGood) ⊎ ((reply_with naks id theirs refused better missing bad).input ≡ ReceiveConfigureRequestBad)
reply_input naks id theirs (o ∷ os) better missing bad = inr refl
reply_input naks id theirs [] [] [] bad = inl refl
reply_input naks id theirs [] [] (o ∷ os) bad = inr refl
reply_input naks id theirs [] (o ∷ os) missing bad = inr (either (is_spent naks) (Reject id (fitting MOST_REST bad)) (Nak id ((o ∷ os) ++ missing)))
  where
    either : (b : Bool) (one other : Packet) → (if b then refusing one else refusing other).input ≡ ReceiveConfigureRequestBad
    either true one other = refl
    either false one other = refl

-- a request is good where nothing is found
pub record IsFound (refused better missing : List ConfigOption) : Type 0 where
  pub none : refused ≡ []
  pub nothing : better ++ missing ≡ []

pub good_found : (naks id : ℕ) (theirs refused better missing bad : List ConfigOption) → (reply_with naks id theirs refused better missing bad).input ≡ ReceiveConfigureRequestGood → IsFound refused better missing
good_found naks id theirs (o ∷ os) better missing bad e = cc
good_found naks id theirs [] [] [] bad e = record { none = refl; nothing = refl }
good_found naks id theirs [] [] (o ∷ os) bad e = cc
good_found naks id theirs [] (o ∷ os) missing bad e = absurd (bad-either (is_spent naks) (Reject id (fitting MOST_REST bad)) (Nak id ((o ∷ os) ++ missing)) e)
  where
    bad-either : (b : Bool) (one other : Packet) → (if b then refusing one else refusing other).input ≡ ReceiveConfigureRequestGood → ⊥
    bad-either true one other e = cc
    bad-either false one other e = cc

-- how many of the kinds haven't stood in the list so far
pub count : Bool → ℕ
count true = 0
count false = 1

pub fresh : List ConfigOption → List ℕ → ℕ
fresh earlier [] = 0
fresh earlier (k ∷ ks) = count (has_kind k earlier) + fresh earlier ks

count-or : (a b : Bool) → count (a || b) ≤ count a
unfolding count
count-or true b = omega arith
count-or false true = omega arith
count-or false false = omega arith

count-le : (a : Bool) → count a ≤ 1
unfolding count
count-le true = omega arith
count-le false = omega arith

kind-more : (kind : ℕ) (earlier : List ConfigOption) (o : ConfigOption) → has_kind kind (earlier ++ o ∷ []) ≡ (has_kind kind earlier || (o.kind == kind))
kind-more kind earlier o = list_any-append (λ x. x.kind == kind) earlier (o ∷ []) ∙ ap (λ (r : Bool). has_kind kind earlier || r) (or-false (o.kind == kind))

fresh-le : (earlier : List ConfigOption) (ks : List ℕ) → fresh earlier ks ≤ length ks
unfolding fresh
fresh-le earlier [] = omega arith
fresh-le earlier (k ∷ ks) = omega (arith, count-le (has_kind k earlier), fresh-le earlier ks)

fresh-less : (earlier : List ConfigOption) (o : ConfigOption) (ks : List ℕ) → fresh (earlier ++ o ∷ []) ks ≤ fresh earlier ks
unfolding fresh
fresh-less earlier o [] = omega arith
fresh-less earlier o (k ∷ ks) =
    let h : count (has_kind k (earlier ++ o ∷ [])) ≤ count (has_kind k earlier) = rw (kind-more k earlier o) (count-or (has_kind k earlier) (o.kind == k)) in
    omega (arith, h, fresh-less earlier o ks)

count-taken : (k : ℕ) (earlier : List ConfigOption) (o : ConfigOption) → k ≡ o.kind → has_kind o.kind earlier ≡ false → count (has_kind k (earlier ++ o ∷ [])) + 1 ≤ count (has_kind k earlier)
unfolding count
count-taken k earlier o e f =
    let same : (o.kind == k) ≡ true = eq-eqb o.kind k (sym e) in
    let old : has_kind k earlier ≡ false = rw e f in
    let new : has_kind k (earlier ++ o ∷ []) ≡ true = kind-more k earlier o ∙ rw (old, same) refl in
    rw (new, old) (omega arith)

fresh-taken : (earlier : List ConfigOption) (o : ConfigOption) (ks : List ℕ) → list_any (λ k. k == o.kind) ks ≡ true → has_kind o.kind earlier ≡ false → fresh (earlier ++ o ∷ []) ks + 1 ≤ fresh earlier ks
unfolding fresh
fresh-taken earlier o [] h f = cc
fresh-taken earlier o (k ∷ ks) h f =
    elim (eqb_tells k o.kind) as (λ _. fresh (earlier ++ o ∷ []) (k ∷ ks) + 1 ≤ fresh earlier (k ∷ ks)) [
      | inl p ↦ omega (arith, count-taken k earlier o p.1 f, fresh-less earlier o ks)
      | inr p ↦
          let rest : list_any (λ k'. k' == o.kind) ks ≡ true = sym (ap (λ (b : Bool). b || list_any (λ k'. k' == o.kind) ks) p.0) ∙ h in
          let first : count (has_kind k (earlier ++ o ∷ [])) ≤ count (has_kind k earlier) = rw (kind-more k earlier o) (count-or (has_kind k earlier) (o.kind == k)) in
          omega (arith, first, fresh-taken earlier o ks rest f)
    ]

-- What is known of a table's verdicts: each kind that isn't unknown is one of a list, and what is suggested is short.
pub record Known (judge : ConfigOption → Verdict) (kinds : List ℕ) : Type 0 where
  pub known : (o : ConfigOption) → (judge o ≢ Unknown) → list_any (λ k. k == o.kind) kinds ≡ true
  pub short : (o better : ConfigOption) → judge o ≡ Bad better → length better.body ≤ 32

-- an option that isn't rejected
record Kept (judge : ConfigOption → Verdict) (earlier os : List ConfigOption) (o : ConfigOption) : Type 0 where
  first : has_kind o.kind earlier ≡ false
  fine : is_refused o (judge o) ≡ false
  rest : has_options (rejected judge (earlier ++ o ∷ []) os) ≡ false

kept-by : (judge : ConfigOption → Verdict) (earlier os : List ConfigOption) (o : ConfigOption) (first refused : Bool) → has_kind o.kind earlier ≡ first → is_refused o (judge o) ≡ refused →
    has_options (rejected judge earlier (o ∷ os)) ≡ false → Kept judge earlier os o
kept-by judge earlier os o true refused a b h = let h' : true ≡ false = rw a at h in cc
kept-by judge earlier os o false true a b h = let h' : true ≡ false = rw (a, b) at h in cc
kept-by judge earlier os o false false a b h = record { first = a; fine = b; rest = rw (a, b) at h }

kept : (judge : ConfigOption → Verdict) (earlier os : List ConfigOption) (o : ConfigOption) → has_options (rejected judge earlier (o ∷ os)) ≡ false → Kept judge earlier os o
kept judge earlier os o h = kept-by judge earlier os o (has_kind o.kind earlier) (is_refused o (judge o)) refl refl h

not-unknown : (o : ConfigOption) (v : Verdict) → is_refused o v ≡ false → v ≢ Unknown
not-unknown o v f e = let h : is_refused o Unknown ≡ false = sym (ap (is_refused o) e) ∙ f in cc

better-short : (v : Verdict) → ((better : ConfigOption) → v ≡ Bad better → length better.body ≤ 32) → length (written (better_of v)) ≤ 34
better-short Good h = omega arith
better-short (Bad better) h = let s = h better refl in omega (arith, s, length-append better.body [])
better-short Unknown h = omega arith

pub suggested_few : (judge : ConfigOption → Verdict) (kinds : List ℕ) (earlier os : List ConfigOption) → Known judge kinds → has_options (rejected judge earlier os) ≡ false →
    length (written (suggested judge os)) ≤ 34 * fresh earlier kinds
suggested_few judge kinds earlier [] k h = omega arith
suggested_few judge kinds earlier (o ∷ os) k h =
    let o' = kept judge earlier os o h in
    let more = suggested_few judge kinds (earlier ++ o ∷ []) os k o'.rest in
    let taken = fresh-taken earlier o kinds (k.known o (not-unknown o (judge o) o'.fine)) o'.first in
    let first = better-short (judge o) (k.short o) in
    let size : length (written (suggested judge (o ∷ os))) ≡ length (written (better_of (judge o))) + length (written (suggested judge os)) =
    ap length (written-append (better_of (judge o)) (suggested judge os)) ∙ length-append (written (better_of (judge o))) (written (suggested judge os)) in
    omega arith

pub suggested_short : (judge : ConfigOption → Verdict) (kinds : List ℕ) (theirs : List ConfigOption) → Known judge kinds → length kinds ≤ 16 → false ≡ has_options (rejected judge [] theirs) →
    length (written (suggested judge theirs)) ≤ 1400
suggested_short judge kinds theirs k l h = let few = suggested_few judge kinds [] theirs k (sym h) in let le = fresh-le [] kinds in omega arith

good-is : (o : ConfigOption) (v : Verdict) (rest : List ConfigOption) → is_refused o v ≡ false → better_of v ++ rest ≡ [] → v ≡ Good
good-is o Good rest f n = refl
good-is o (Bad better) rest f n = cc
good-is o Unknown rest f n = cc

rest-nil : (v : Verdict) (rest : List ConfigOption) → better_of v ++ rest ≡ [] → rest ≡ []
rest-nil Good rest n = n
rest-nil (Bad better) rest n = cc
rest-nil Unknown rest n = n

all-good : (t : Table) (own : List ConfigOption) (word : ℕ) (earlier os : List ConfigOption) → has_options (rejected (judging_by t own word) earlier os) ≡ false → suggested (judging_by t own word) os ≡ [] → AllGood t own word os
all-good t own word earlier [] h n = tt
all-good t own word earlier (o ∷ os) h n =
    let k = kept (judging_by t own word) earlier os o h in
    (good-is o (t.judge own o word) (suggested (judging_by t own word) os) k.fine n, all-good t own word (earlier ++ o ∷ []) os k.rest (rest-nil (t.judge own o word) (suggested (judging_by t own word) os) n))

none-twice : (judge : ConfigOption → Verdict) (earlier os : List ConfigOption) → has_options (rejected judge earlier os) ≡ false → NoneTwice earlier os
none-twice judge earlier [] h = tt
none-twice judge earlier (o ∷ os) h = let k = kept judge earlier os o h in (k.first, none-twice judge (earlier ++ o ∷ []) os k.rest)

front-nil : (xs ys : List ConfigOption) → xs ++ ys ≡ [] → xs ≡ []
front-nil [] ys n = refl
front-nil (x ∷ xs) ys n = cc

back-nil : (xs ys : List ConfigOption) → xs ++ ys ≡ [] → ys ≡ []
back-nil [] ys n = n
back-nil (x ∷ xs) ys n = cc

missing-none : (m : Option ConfigOption) → option_to_list m ≡ [] → m ≡ None
missing-none None n = refl
missing-none (Some o) n = cc

pub passes_if : (t : Table) (own : List ConfigOption) (word : ℕ) (theirs : List ConfigOption) → false ≡ has_options (rejected (judging_by t own word) [] theirs) →
    suggested (judging_by t own word) theirs ++ option_to_list (t.missing own theirs word) ≡ [] → Passes t own theirs word
passes_if t own word theirs h n = record {
  good = all-good t own word [] theirs (sym h) (front-nil (suggested (judging_by t own word) theirs) (option_to_list (t.missing own theirs word)) n);
  once = none-twice (judging_by t own word) [] theirs (sym h);
  whole = missing-none (t.missing own theirs word) (back-nil (suggested (judging_by t own word) theirs) (option_to_list (t.missing own theirs word)) n);
}

pub known_by : (t : Table) (sendable : List ConfigOption → Type 0) (unknown : ConfigOption → Type 0) (allows compat : List ConfigOption → List ConfigOption → Type 0) (l : Lawful t sendable unknown allows compat)
    (own : List ConfigOption) (word : ℕ) → Known (judging_by t own word) l.kinds
known_by t sendable unknown allows compat l own word = record {
  known = λ o n. elim (l.kinds_all o) as (λ _. list_any (λ k. k == o.kind) l.kinds ≡ true) [ inl u ↦ absurd (n ((l.unknown_is own o word).1 u)) | inr k ↦ k ];
  short = λ o better e. l.better_short own o better word e;
}

pub suggested_lawful : (t : Table) (sendable : List ConfigOption → Type 0) (unknown : ConfigOption → Type 0) (allows compat : List ConfigOption → List ConfigOption → Type 0) → Lawful t sendable unknown allows compat →
    (own : List ConfigOption) (word : ℕ) (theirs : List ConfigOption) → false ≡ has_options (rejected (judging_by t own word) [] theirs) → length (written (suggested (judging_by t own word) theirs)) ≤ 1400
suggested_lawful t sendable unknown allows compat l own word theirs h = suggested_short (judging_by t own word) l.kinds theirs (known_by t sendable unknown allows compat l own word) l.kinds_few h

pub acked_short : (t : Table) (sendable : List ConfigOption → Type 0) (unknown : ConfigOption → Type 0) (allows compat : List ConfigOption → List ConfigOption → Type 0) → Lawful t sendable unknown allows compat →
    (own : List ConfigOption) (word : ℕ) (theirs : List ConfigOption) → sendable own → false ≡ has_options (rejected (judging_by t own word) [] theirs) →
    suggested (judging_by t own word) theirs ++ option_to_list (t.missing own theirs word) ≡ [] → length (written theirs) ≤ 128
acked_short t sendable unknown allows compat l own word theirs s h n = l.allowed_short own theirs s ((l.allows_is own theirs word s).1 (passes_if t own word theirs h n))

-- what answers a request that isn't rejected is short
pub naked_short : (t : Table) (sendable : List ConfigOption → Type 0) (unknown : ConfigOption → Type 0) (allows compat : List ConfigOption → List ConfigOption → Type 0) → Lawful t sendable unknown allows compat →
    (own : List ConfigOption) (word : ℕ) (theirs : List ConfigOption) → false ≡ has_options (rejected (judging_by t own word) [] theirs) →
    length (written (suggested (judging_by t own word) theirs ++ option_to_list (t.missing own theirs word))) ≤ MOST_REST
naked_short t sendable unknown allows compat l own word theirs h =
    let few = suggested_lawful t sendable unknown allows compat l own word theirs h in
    let more = one-short (t.missing own theirs word) (λ missed e. l.missing_short own theirs missed word e) in
    let size = ap length (written-append (suggested (judging_by t own word) theirs) (option_to_list (t.missing own theirs word)))
    ∙ length-append (written (suggested (judging_by t own word) theirs)) (written (option_to_list (t.missing own theirs word))) in
    omega arith
  where
    one-short : (m : Option ConfigOption) → ((missed : ConfigOption) → m ≡ Some missed → length missed.body ≤ 32) → length (written (option_to_list m)) ≤ 34
    one-short None h = omega arith
    one-short (Some o) h = let s = h o refl in omega (arith, s, length-append o.body [])

pub empty_list : (empty : Bool) (xs : List ℕ) (list : List ConfigOption) → xs ≡ written list → empty ≡ (length xs == 0) → empty ≡ true → list ≡ []
empty_list empty xs [] e t h = refl
empty_list empty xs (o ∷ os) e t h = let no : (length (written (o ∷ os)) == 0) ≡ true = sym (ap (λ (ys : List ℕ). length ys == 0) e) ∙ (sym t ∙ h) in absurd (omega (arith, eqb-true (length (written (o ∷ os))) 0 no))

pub filled_list : (empty : Bool) (xs : List ℕ) (list : List ConfigOption) → xs ≡ written list → empty ≡ (length xs == 0) → empty ≡ false → list ≢ []
filled_list empty xs list e t h n = let no : false ≡ true = sym h ∙ (t ∙ ap (λ (ys : List ℕ). length ys == 0) (e ∙ ap written n)) in cc

-- an answer that carries the octets of a list
pub answered : (make : List ConfigOption → Packet) (octets : List ℕ) (list : List ConfigOption) (got : Packet) → got ≡ make (list_of octets) → octets ≡ written list → got ≡ make list
answered make octets list got g o = g ∙ (ap (λ (xs : List ℕ). make (list_of xs)) o ∙ ap make (list_of-written list))

-- what is kept where nothing is rejected: the suggestions and what is missing
pub record IsKept (t : Table) (own : List ConfigOption) (word : ℕ) (theirs : List ConfigOption) (j : Judged) : Type 0 where
  pub clean : rejected (judging_by t own word) [] theirs ≡ []
  pub none : false ≡ has_options (rejected (judging_by t own word) [] theirs)
  pub octets : j.front.octets.items ≡ written (suggested (judging_by t own word) theirs ++ option_to_list (t.missing own theirs word))

pub kept_clean : (t : Table) (sendable : List ConfigOption → Type 0) (unknown : ConfigOption → Type 0) (allows compat : List ConfigOption → List ConfigOption → Type 0) → Lawful t sendable unknown allows compat →
    (own : List ConfigOption) (word : ℕ) (theirs : List ConfigOption) (spent : Bool) (j : Judged) → AreSettled t own spent word theirs j → (j.refused || (j.bad && j.spent)) ≡ false → IsKept t own word theirs j
kept_clean t sendable unknown allows compat l own word theirs spent j s r =
    let clean = clean_settled spent (rejected (judging_by t own word) [] theirs) (suggested (judging_by t own word) theirs) (option_to_list (t.missing own theirs word)) (unacceptable (judging_by t own word) theirs) j s r in
    let none : false ≡ has_options (rejected (judging_by t own word) [] theirs) = sym (ap has_options clean.none) in
    record { clean = clean.none; none = none; octets = front_all j.front _ _ s.kept clean.all (naked_short t sendable unknown allows compat l own word theirs none) }
