-- The control link of a bundle is one of its links, and a change of a place that a bundle doesn't see changes none.
use Rattle.std.proofs.Common.{◌≡◌, ◌≢◌, ℕ, zero, suc, ◌+◌, ◌-◌, ◌<◌, ◌⊎◌, inl, inr, Bool, true, false, cond, List, [], ◌∷◌, length, map, set, get_or, refl, ap, sym, ◌∙◌, arith}
use Rattle.std.specs.Prelude.{Option, Some, None, ◌==◌, is_some, nat_le}
use Rattle.std.specs.List.{list_any}
use Rattle.std.specs.Option.{option_map}
use Rattle.std.proofs.lemmas.Bool.Decides.{nat_tests}
use Rattle.std.proofs.lemmas.List.{get_or-set_same, get_or-set_other, length-set}
use Rattle.std.proofs.Math.ListN.{get_or-map}
use Rattle.std.proofs.Math.Seq.{map-set_same}
use Rattle.std.proofs.lemmas.List.Folds.{list_any_at}
use Rattle.std.proofs.lemmas.Option.{same_Some}
use Rattle.ppp_bundle.specs.JoinKey.{Key}
use Rattle.ppp_bundle.specs.BundleTable.{AreControls, IsBundleOf, IsLinkOf}
use Rattle.ppp_bundle.specs.Bundles.{Bundles, Member, bundle_at, control_by, control_of, first_of, first_some, has_link, is_senior_by, key_at, key_in, keys_in, least_from, member_at, with_place}
use Rattle.ppp_bundle.proofs.ListLemmas.{by-either}
use Rattle.ppp_bundle.specs.declared.control.Candidate.{Candidate}

-- ---- a link of the bundle is the control link

lesser-is : (b : Bool) (c d : Candidate) → is_some (cond b (Some c) (Some d)) ≡ true
lesser-is true c d = refl
lesser-is false c d = refl

first-is : (c : Candidate) (o : Option Candidate) → is_some (first_of (Some c) o) ≡ true
first-is c None = refl
first-is c (Some d) = lesser-is (nat_le c.number d.number) c d

least-is : (senior : Bool) (l : ℕ) (ks : List (Option Key)) → is_some (least_from senior l ks) ≡ list_any is_some ks
least-is senior l [] = refl
least-is senior l (None ∷ ks) = least-is senior (l + 1) ks
least-is senior l (Some k ∷ ks) = first-is _ (least_from senior (l + 1) ks)

map-is : {A B : Type 0} (f : A → B) (o : Option A) → is_some (option_map f o) ≡ is_some o
map-is f None = refl
map-is f (Some x) = refl

-- A bundle has a control link exactly where it has a link.
pub linked-control : (b : ℕ) (t : Bundles) → has_link b t ≡ is_some (control_of b t)
linked-control b t =
    sym (map-is (λ (c : Candidate). c.link) (least_from (is_senior_by (first_some (keys_in b t))) 1 (keys_in b t))
    ∙ least-is (is_senior_by (first_some (keys_in b t))) 1 (keys_in b t))

-- the place of the control link
pub record IsFrom (l link : ℕ) (ks : List (Option Key)) : Type 0 where
  pub place : ℕ
  pub at : link ≡ l + place
  pub there : is_some (get_or ks place None) ≡ true

lesser-from : (b : Bool) (c d e : Candidate) → cond b (Some c) (Some d) ≡ Some e → (c ≡ e) ⊎ (d ≡ e)
lesser-from true c d e h = inl (cc)
lesser-from false c d e h = inr (cc)

later-place : (l link : ℕ) (k : Option Key) (ks : List (Option Key)) → IsFrom (l + 1) link ks → IsFrom l link (k ∷ ks)
later-place l link k ks h = record { place = suc h.place; at = omega (arith, h.at); there = h.there }

first-place : (l number : ℕ) (k : Key) (ks : List (Option Key)) (o : Option Candidate) (c : Candidate) → (o ≡ Some c → IsFrom (l + 1) c.link ks) →
    first_of (Some (record { number = number; link = l })) o ≡ Some c → IsFrom l c.link (Some k ∷ ks)
first-place l number k ks None c rest is =
    let e : l ≡ c.link = ap (λ (c : Candidate). c.link) (same_Some _ c is) in
    record { place = 0; at = omega (arith, e); there = refl }
first-place l number k ks (Some d) c rest is =
    by-either (lesser-from _ _ d c is)
    (λ own. record { place = 0; at = (let e : l ≡ c.link = ap (λ (c : Candidate). c.link) own in omega (arith, e)); there = refl })
    (λ other. later-place l c.link (Some k) ks (rest (ap Some other)))

pub least-place : (senior : Bool) (l : ℕ) (ks : List (Option Key)) (c : Candidate) → least_from senior l ks ≡ Some c → IsFrom l c.link ks
least-place senior l [] c is = absurd (cc)
least-place senior l (None ∷ ks) c is = later-place l c.link None ks (least-place senior (l + 1) ks c is)
least-place senior l (Some k ∷ ks) c is = first-place l _ k ks (least_from senior (l + 1) ks) c (least-place senior (l + 1) ks c) is

-- ---- places and keys

pub key-member : (b : ℕ) (p : Option Member) → is_some (key_in b p) ≡ true → option_map (λ (m : Member). m.bundle) p ≡ Some b
key-member b None h = absurd (cc)
key-member b (Some m) h = ap Some (grind (arith, nat_tests))

pub member-key : (b : ℕ) (p : Option Member) → option_map (λ (m : Member). m.bundle) p ≡ Some b → is_some (key_in b p) ≡ true
member-key b None h = absurd (cc)
member-key b (Some m) h = let same : m.bundle ≡ b = cc in grind (arith, nat_tests)

pub key-place : (b i : ℕ) (ps : List (Option Member)) → get_or (map (key_in b) ps) i None ≡ key_in b (get_or ps i None)
key-place b i ps = get_or-map (key_in b) ps i None

some-within : {A : Type 0} (xs : List (Option A)) (i : ℕ) → is_some (get_or xs i None) ≡ true → i < length xs
some-within [] i h = absurd (cc)
some-within (x ∷ xs) zero h = omega arith
some-within (x ∷ xs) (suc i) h = let rest = some-within xs i h in omega arith

pub map-some : {A B : Type 0} (f : A → B) (o : Option A) (y : B) → option_map f o ≡ Some y → (x : A) × (o ≡ Some x) × (f x ≡ y)
map-some f None y h = absurd (cc)
map-some f (Some x) y h = (x, refl, cc)

-- the control link of a bundle is joined there
pub control-joined : (b l : ℕ) (t : Bundles) → length t.places ≡ t.limits.links → control_of b t ≡ Some l → IsLinkOf t l × (bundle_at l t ≡ Some b)
control-joined b l t size is =
    let found = map-some (λ (c : Candidate). c.link) (least_from (is_senior_by (first_some (keys_in b t))) 1 (keys_in b t)) l is in
    let from = least-place (is_senior_by (first_some (keys_in b t))) 1 (keys_in b t) found.0 found.1 in
    let at : l ≡ 1 + from.place = sym found.2 ∙ from.at in
    let there : is_some (key_in b (get_or t.places from.place None)) ≡ true = ap is_some (sym (key-place b from.place t.places)) ∙ from.there in
    let joined = key-member b (get_or t.places from.place None) there in
    let within : from.place < length t.places = some-within t.places from.place (grind (arith, joined)) in
    let place : l - 1 ≡ from.place = omega arith in
    ((omega arith, omega (arith, within, size)), rw place joined)

-- a bundle with a joined link has a link
pub joined-linked : (b l : ℕ) (t : Bundles) → bundle_at l t ≡ Some b → has_link b t ≡ true
joined-linked b l t is =
    let there : is_some (get_or (keys_in b t) (l - 1) None) ≡ true = ap is_some (key-place b (l - 1) t.places) ∙ member-key b (member_at l t) is in
    list_any_at is_some (keys_in b t) (l - 1) None (some-within (keys_in b t) (l - 1) there) there

-- ---- the control links that are kept

pub keys-kept : (b l : ℕ) (p : Option Member) (t : Bundles) → key_in b p ≡ key_at b l t → keys_in b (with_place l p t) ≡ keys_in b t
keys-kept b l p t same = map-set_same (key_in b) t.places (l - 1) p None same

pub controls-kept : (l : ℕ) (p : Option Member) (cs : List (Option ℕ)) (t : Bundles) → AreControls cs t → ((b : ℕ) → key_in b p ≡ key_at b l t) → AreControls cs (with_place l p t)
controls-kept l p cs t held same = record {
  size = held.size;
  each = λ b within. held.each b within ∙ ap control_by (sym (keys-kept b l p t (same b)));
}

put-each : (l b i : ℕ) (c : Option ℕ) (p : Option Member) (cs : List (Option ℕ)) (t : Bundles) → AreControls cs t → IsBundleOf t b → ((i : ℕ) → i ≢ b → key_in i p ≡ key_at i l t) →
    c ≡ control_of b (with_place l p t) → IsBundleOf t i → (same : Bool) → (i == b) ≡ same → get_or (set cs b c) i None ≡ control_of i (with_place l p t)
put-each l b i c p cs t held within others new inside true test =
    let e : i ≡ b = grind (arith, nat_tests) in
    rw e (get_or-set_same cs b c None (omega (arith, within, held.size)) ∙ new)
put-each l b i c p cs t held within others new inside false test =
    let e : i ≢ b = grind (arith, nat_tests) in
    get_or-set_other cs b i c None e ∙ (held.each i inside ∙ ap control_by (sym (keys-kept i l p t (others i e))))

pub controls-put : (l b : ℕ) (c : Option ℕ) (p : Option Member) (cs : List (Option ℕ)) (t : Bundles) → AreControls cs t → IsBundleOf t b → ((i : ℕ) → i ≢ b → key_in i p ≡ key_at i l t) →
    c ≡ control_of b (with_place l p t) → AreControls (set cs b c) (with_place l p t)
controls-put l b c p cs t held within others new = record {
  size = length-set cs b c ∙ held.size;
  each = λ i inside. put-each l b i c p cs t held within others new inside (i == b) refl;
}

-- a link that isn't joined in a bundle has no key there
pub key-other : (b i : ℕ) (p : Option Member) → i ≢ b → option_map (λ (m : Member). m.bundle) p ≡ Some b → key_in i p ≡ None
key-other b i None other h = refl
key-other b i (Some m) other h = let same : m.bundle ≡ b = cc in grind (arith, nat_tests)

pub key-none : (i : ℕ) (p : Option Member) → option_map (λ (m : Member). m.bundle) p ≡ None → key_in i p ≡ None
key-none i None h = refl
key-none i (Some m) h = absurd (cc)
