-- Both ends have the same control link of a bundle, and what happens to one link changes no other's place.
use Rattle.std.proofs.Common.{◌≡◌, ◌≢◌, ℕ, suc, ◌+◌, ◌-◌, ◌≤◌, Bool, true, false, not, List, [], ◌∷◌, map, get_or, refl, ap, sym, ◌∙◌, arith}
use Rattle.std.specs.Prelude.{Option, Some, None}
use Rattle.std.specs.Option.{option_map, option_or}
use Rattle.std.proofs.lemmas.List.{get_or-set_other}
use Rattle.std.proofs.lemmas.Option.{same_Some}
use Rattle.ppp_bundle.specs.BundleTable.{AreMirrored, IsBundles}
use Rattle.ppp_bundle.specs.Bundles.{Bundles, Member, control_by, control_of, first_of, first_some, is_senior_by, key_in, keys_in, least_from, member_at, numbered, with_place}
use Rattle.ppp_bundle.specs.JoinKey.{Key, is_of_one_end, is_senior, may_join, mirrored}
use Rattle.ppp_bundle.specs.Joining.{join_answer, joined_as, joined_by}
use Rattle.ppp_bundle.specs.declared.control.Candidate.{Candidate}
use Rattle.ppp_bundle.specs.declared.join.Join.{Join}
use Rattle.ppp_bundle.specs.declared.join.Join.TheVariants.{First, Added, Single}
use Rattle.ppp_bundle.proofs.ControlLemmas.{key-place}
use Rattle.ppp_bundle.proofs.KeyLemmas.{may-differ, number-mirrored, senior-mirrored}

-- ---- lists of keys

-- one list has the mirrored keys of another, past their ends too
abbrev IsMirror : List (Option Key) → List (Option Key) → Type 0
IsMirror ks js = (i : ℕ) → get_or ks i None ≡ option_map mirrored (get_or js i None)

mirror-none : (o : Option Key) → None ≡ option_map mirrored o → o ≡ None
mirror-none None h = refl
mirror-none (Some k) h = absurd (cc)

first-mirror : (ks js : List (Option Key)) → IsMirror ks js → first_some ks ≡ option_map mirrored (first_some js)
first-mirror [] [] h = refl
first-mirror [] (None ∷ js) h = first-mirror [] js (λ i. h (suc i))
first-mirror [] (Some j ∷ js) h = absurd (let e = h 0 in cc)
first-mirror (None ∷ ks) [] h = first-mirror ks [] (λ i. h (suc i))
first-mirror (Some k ∷ ks) [] h = absurd (let e = h 0 in cc)
first-mirror (None ∷ ks) (None ∷ js) h = first-mirror ks js (λ i. h (suc i))
first-mirror (None ∷ ks) (Some j ∷ js) h = absurd (let e = h 0 in cc)
first-mirror (Some k ∷ ks) (None ∷ js) h = absurd (let e = h 0 in cc)
first-mirror (Some k ∷ ks) (Some j ∷ js) h = h 0

numbered-mirror : (senior : Bool) (l : ℕ) (o : Option Key) → numbered senior l (option_map mirrored o) ≡ numbered (not senior) l o
numbered-mirror senior l None = refl
numbered-mirror senior l (Some k) = ap (λ n. Some (record { number = n; link = l })) (number-mirrored senior k)

numbered-same : (senior : Bool) (l : ℕ) (k j : Option Key) → k ≡ option_map mirrored j → numbered senior l k ≡ numbered (not senior) l j
numbered-same senior l k j same = ap (numbered senior l) same ∙ numbered-mirror senior l j

least-mirror : (senior : Bool) (l : ℕ) (ks js : List (Option Key)) → IsMirror ks js → least_from senior l ks ≡ least_from (not senior) l js
least-mirror senior l [] [] h = refl
least-mirror senior l [] (j ∷ js) h =
    let none : j ≡ None = mirror-none j (h 0) in
    least-mirror senior (l + 1) [] js (λ i. h (suc i)) ∙ sym (ap (λ c. first_of c (least_from (not senior) (l + 1) js)) (ap (numbered (not senior) l) none))
least-mirror senior l (k ∷ ks) [] h =
    let none : k ≡ None = h 0 in
    ap (λ c. first_of c (least_from senior (l + 1) ks)) (ap (numbered senior l) none) ∙ least-mirror senior (l + 1) ks [] (λ i. h (suc i))
least-mirror senior l (k ∷ ks) (j ∷ js) h =
    ap (λ c. first_of c (least_from senior (l + 1) ks)) (numbered-same senior l k j (h 0))
    ∙ ap (first_of (numbered (not senior) l j)) (least-mirror senior (l + 1) ks js (λ i. h (suc i)))

nothing-by : (k : Option Key) (rest : Option Key) → option_or k rest ≡ None → (k ≡ None) × (rest ≡ None)
nothing-by None rest h = (refl, h)
nothing-by (Some k) rest h = absurd (cc)

nothing-least : (senior : Bool) (l : ℕ) (ks : List (Option Key)) → first_some ks ≡ None → least_from senior l ks ≡ None
nothing-least senior l [] none = refl
nothing-least senior l (k ∷ ks) none =
    let parts = nothing-by k (first_some ks) none in
    ap (λ c. first_of c (least_from senior (l + 1) ks)) (ap (numbered senior l) parts.0) ∙ nothing-least senior (l + 1) ks parts.1

-- the first key of a bundle is a member's
pub record IsMembers (b : ℕ) (ps : List (Option Member)) (k : Key) : Type 0 where
  pub place : ℕ
  pub member : Member
  pub at : get_or ps place None ≡ Some member
  pub key : member.key ≡ k

key-of : (b : ℕ) (p : Option Member) (k : Key) → key_in b p ≡ Some k → (m : Member) × (p ≡ Some m) × (m.key ≡ k)
key-of b None k h = absurd (cc)
key-of b (Some m) k h = (m, refl, grind arith)

first-by : (b : ℕ) (p : Option Member) (ps : List (Option Member)) (k : Key) (o : Option Key) → key_in b p ≡ o → (first_some (map (key_in b) ps) ≡ Some k → IsMembers b ps k) →
    option_or o (first_some (map (key_in b) ps)) ≡ Some k → IsMembers b (p ∷ ps) k
first-by b p ps k None here rest is = let later = rest is in record { place = suc later.place; member = later.member; at = later.at; key = later.key }
first-by b p ps k (Some j) here rest is =
    let from = key-of b p j here in
    record { place = 0; member = from.0; at = from.1; key = from.2 ∙ same_Some j k is }

pub first-member : (b : ℕ) (ps : List (Option Member)) (k : Key) → first_some (map (key_in b) ps) ≡ Some k → IsMembers b ps k
first-member b [] k is = absurd (cc)
first-member b (p ∷ ps) k is = first-by b p ps k (key_in b p) refl (first-member b ps k) is

first-differs : (b : ℕ) (t : Bundles) (k : Key) → IsBundles t → first_some (keys_in b t) ≡ Some k → is_of_one_end k ≡ false
first-differs b t k h is =
    let from = first-member b t.places k is in
    let place : suc from.place - 1 ≡ from.place = omega arith in
    let there : member_at (suc from.place) t ≡ Some from.member = rw place from.at in
    may-differ k (ap may_join (sym from.key) ∙ (h.members (suc from.place) from.member there).may)

-- ---- the control link

not-not : (b : Bool) → not (not b) ≡ b
not-not true = refl
not-not false = refl

same-by : (ks js : List (Option Key)) (o : Option Key) → IsMirror ks js → first_some js ≡ o → ((k : Key) → o ≡ Some k → is_of_one_end k ≡ false) → control_by ks ≡ control_by js
same-by ks js None h first differ =
    let none : first_some ks ≡ None = first-mirror ks js h ∙ ap (option_map mirrored) first in
    ap (option_map (λ (c : Candidate). c.link)) (nothing-least _ 1 ks none ∙ sym (nothing-least _ 1 js first))
same-by ks js (Some k) h first differ =
    let mirror : first_some ks ≡ Some (mirrored k) = first-mirror ks js h ∙ ap (option_map mirrored) first in
    let one : is_senior_by (first_some ks) ≡ is_senior (mirrored k) = ap is_senior_by mirror in
    let other : is_senior_by (first_some js) ≡ is_senior k = ap is_senior_by first in
    let turned : not (is_senior_by (first_some ks)) ≡ is_senior_by (first_some js) = ap not one ∙ (sym (senior-mirrored k (differ k refl)) ∙ sym other) in
    ap (option_map (λ (c : Candidate). c.link)) (least-mirror (is_senior_by (first_some ks)) 1 ks js h ∙ ap (λ s. least_from s 1 js) turned)

keys-mirror : (b c : ℕ) (t u : Bundles) → AreMirrored b t c u → IsMirror (keys_in b t) (keys_in c u)
keys-mirror b c t u h = λ i.
    let place : suc i - 1 ≡ i = omega arith in
    let at : key_in b (get_or t.places i None) ≡ option_map mirrored (key_in c (get_or u.places i None)) = (let from = h (suc i) (omega arith) in rw place at from) in
    key-place b i t.places ∙ (at ∙ ap (option_map mirrored) (sym (key-place c i u.places)))

pub control-same : (b c : ℕ) (t u : Bundles) → IsBundles t → IsBundles u → AreMirrored b t c u → control_of b t ≡ control_of c u
control-same b c t u one other h =
    same-by (keys_in b t) (keys_in c u) (first_some (keys_in c u)) (keys-mirror b c t u h) refl (λ k is. first-differs c u k other is)

-- ---- the other links

pub place-other : (l m : ℕ) (p : Option Member) (t : Bundles) → 1 ≤ l → 1 ≤ m → m ≢ l → member_at m (with_place l p t) ≡ member_at m t
place-other l m p t low high other =
    let e : m - 1 ≢ l - 1 = λ same. other (omega (arith, same, low, high)) in
    get_or-set_other t.places (l - 1) (m - 1) p None e

joined-other-by : (answer : Join) (l m : ℕ) (k : Key) (t : Bundles) → 1 ≤ l → 1 ≤ m → m ≢ l → member_at m (joined_by answer l k t) ≡ member_at m t
joined-other-by (First b) l m k t low high other = place-other l m _ t low high other
joined-other-by (Added b) l m k t low high other = place-other l m _ t low high other
joined-other-by (Single why) l m k t low high other = refl

pub joined-other : (l m : ℕ) (k : Key) (t : Bundles) → 1 ≤ l → 1 ≤ m → m ≢ l → member_at m (joined_as l k t) ≡ member_at m t
joined-other l m k t low high other = joined-other-by (join_answer k t) l m k t low high other
