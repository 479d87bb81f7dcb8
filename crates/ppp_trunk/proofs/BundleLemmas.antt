-- Links that join bundles and leave them: what they are joined as, and which link controls each bundle.
use Rattle.std.proofs.Common.{◌≡◌, ◌≢◌, ℕ, zero, suc, ◌-◌, ◌<◌, ◌≤◌, false, if◌then◌else◌, List, [], ◌∷◌, length, map, get_or, replicate, set, refl, sym, ap, subst, ◌∙◌, arith, ne_eqb}
use Rattle.std.specs.Prelude.{Option, Some, None, option_map}
use Rattle.std.proofs.lemmas.Option.{none-some, same_Some}
use Rattle.ppp_bundle.specs.BundleTable.{IsBundles, IsLimits, IsLinkOf}
use Rattle.ppp_bundle.specs.Bundles.{Bundles, Member, bundle_at, bundles_begun, control_by, control_of, key_in, left, member_at, with_place}
use Rattle.ppp_bundle.specs.JoinKey.{Key}
use Rattle.ppp_bundle.specs.Joining.{join_answer, joined_as, joined_by, with_member}
use Rattle.ppp_bundle.specs.declared.join.Join.{Join}
use Rattle.ppp_bundle.specs.declared.join.Join.TheVariants.{First, Added, Single}
use Rattle.ppp_bundle.specs.declared.limits.Limits.{Limits}
use Rattle.ppp_bundle.proofs.BundlesLemmas.{sound-begun, sound-joined, sound-left}
use Rattle.ppp_bundle.proofs.ControlLemmas.{control-joined as bundle-control}

-- ---- what bundles promise

pub begun-bundles : (n : Limits) → IsLimits n → IsBundles (bundles_begun n)
begun-bundles n fit = sound-begun n fit

pub joins-bundles : (l : ℕ) (k : Key) (b : Bundles) → IsBundles b → bundle_at l b ≡ None → IsLinkOf b l → IsBundles (joined_as l k b)
joins-bundles l k b sound free of = sound-joined l k b sound

pub leaves-bundles : (l : ℕ) (b : Bundles) → IsBundles b → IsLinkOf b l → IsBundles (left l b)
leaves-bundles l b sound of = sound-left l b sound

-- a control link is a link of its bundle
pub control-joined : (i c : ℕ) (b : Bundles) → IsBundles b → control_of i b ≡ Some c → IsLinkOf b c × (bundle_at c b ≡ Some i)
control-joined i c b sound is = bundle-control i c b sound.places is

-- ---- places

at-empty : {A : Type 0} (ps : List (Option A)) (i : ℕ) → get_or (set ps i None) i None ≡ None
at-empty [] i = refl
at-empty (p ∷ ps) zero = refl
at-empty (p ∷ ps) (suc i) = at-empty ps i

at-own : {A : Type 0} (ps : List (Option A)) (i : ℕ) (x : Option A) → i < length ps → get_or (set ps i x) i None ≡ x
at-own [] i x less = absurd (omega arith)
at-own (p ∷ ps) zero x less = refl
at-own (p ∷ ps) (suc i) x less = at-own ps i x (omega arith)

at-other : {A : Type 0} (ps : List (Option A)) (i j : ℕ) (x : Option A) → j ≢ i → get_or (set ps i x) j None ≡ get_or ps j None
at-other [] i j x other = refl
at-other (p ∷ ps) zero zero x other = absurd (other refl)
at-other (p ∷ ps) zero (suc j) x other = refl
at-other (p ∷ ps) (suc i) zero x other = refl
at-other (p ∷ ps) (suc i) (suc j) x other = at-other ps i j x (λ same. other (ap suc same))

map-same : {A B : Type 0} (f : Option A → B) (ps : List (Option A)) (i : ℕ) (x : Option A) → f x ≡ f (get_or ps i None) → map f (set ps i x) ≡ map f ps
map-same f [] i x same = refl
map-same f (p ∷ ps) zero x same = ap (λ y. y ∷ map f ps) same
map-same f (p ∷ ps) (suc i) x same = ap (λ ys. f p ∷ ys) (map-same f ps i x same)

nones-at : {A : Type 0} (n i : ℕ) → get_or {A = Option A} (replicate n None) i None ≡ None
nones-at zero i = refl
nones-at (suc n) zero = refl
nones-at (suc n) (suc i) = nones-at n i

-- ---- links

pub none-begun : (n : Limits) (l : ℕ) → member_at l (bundles_begun n) ≡ None
none-begun n l = nones-at {A = Member} n.links (l - 1)

pub none-at : (l : ℕ) (b : Bundles) → member_at l (left l b) ≡ None
none-at l b = at-empty b.places (l - 1)

pub own-at : (l : ℕ) (x : Option Member) (b : Bundles) → 1 ≤ l → l ≤ length b.places → member_at l (with_place l x b) ≡ x
own-at l x b low high = at-own b.places (l - 1) x (omega arith)

pub others-at : (l m : ℕ) (x : Option Member) (b : Bundles) → 1 ≤ l → 1 ≤ m → m ≢ l → member_at m (with_place l x b) ≡ member_at m b
others-at l m x b low least other = at-other b.places (l - 1) (m - 1) x (λ same. other (omega (arith, same)))

-- ---- a link that asks to join

member-key : (l i : ℕ) (k : Key) (b : Bundles) (m : Member) → 1 ≤ l → l ≤ length b.places → member_at l (with_member l k i b) ≡ Some m → m.key ≡ k
member-key l i k b m low high is =
    let joined : Member = record { bundle = i; key = k; marked = false } in
    ap (λ (m : Member). m.key) (same_Some m joined (sym is ∙ own-at l (Some joined) b low high))

key-by : (l : ℕ) (k : Key) (b : Bundles) (j : Join) (m : Member) → bundle_at l b ≡ None → 1 ≤ l → l ≤ length b.places → member_at l (joined_by j l k b) ≡ Some m → m.key ≡ k
key-by l k b (First i) m free low high is = member-key l i k b m low high is
key-by l k b (Added i) m free low high is = member-key l i k b m low high is
key-by l k b (Single why) m free low high is = absurd (none-some m.bundle (sym free ∙ ap (option_map (λ m. m.bundle)) is))

-- it is joined by what it asked with
pub joined-key : (l : ℕ) (k : Key) (b : Bundles) (m : Member) → IsBundles b → bundle_at l b ≡ None → IsLinkOf b l → member_at l (joined_as l k b) ≡ Some m → m.key ≡ k
joined-key l k b m sound free of is = key-by l k b (join_answer k b) m free of.0 (subst (λ n. l ≤ n) (sym sound.places) of.1) is

others-by : (l m : ℕ) (k : Key) (b : Bundles) (j : Join) → 1 ≤ l → 1 ≤ m → m ≢ l → member_at m (joined_by j l k b) ≡ member_at m b
others-by l m k b (First i) low least other = others-at l m (Some (record { bundle = i; key = k; marked = false })) b low least other
others-by l m k b (Added i) low least other = others-at l m (Some (record { bundle = i; key = k; marked = false })) b low least other
others-by l m k b (Single why) low least other = refl

-- any other link stays as it was
pub others-joined : (l m : ℕ) (k : Key) (b : Bundles) → 1 ≤ l → 1 ≤ m → m ≢ l → member_at m (joined_as l k b) ≡ member_at m b
others-joined l m k b low least other = others-by l m k b (join_answer k b) low least other

limits-by : (l : ℕ) (k : Key) (b : Bundles) (j : Join) → (joined_by j l k b).limits ≡ b.limits
limits-by l k b (First i) = refl
limits-by l k b (Added i) = refl
limits-by l k b (Single why) = refl

pub limits-joined : (l : ℕ) (k : Key) (b : Bundles) → (joined_as l k b).limits ≡ b.limits
limits-joined l k b = limits-by l k b (join_answer k b)

-- ---- the control links of other bundles

control-same : (l j : ℕ) (x : Option Member) (b : Bundles) → key_in j x ≡ key_in j (member_at l b) → control_of j (with_place l x b) ≡ control_of j b
control-same l j x b same = ap control_by (map-same (key_in j) b.places (l - 1) x same)

-- a link that is in none, or in another one, has no key there
no-key : (j : ℕ) (o : Option Member) → ((m : Member) → o ≡ Some m → m.bundle ≢ j) → key_in j o ≡ None
no-key j None out = refl
no-key j (Some m) out = ap (λ b. if b then Some m.key else None) (ne_eqb m.bundle j (out m refl))

pub controls-joined : (l i j : ℕ) (k : Key) (b : Bundles) → bundle_at l b ≡ None → j ≢ i →
    control_of j (with_place l (Some (record { bundle = i; key = k; marked = false })) b) ≡ control_of j b
controls-joined l i j k b free other =
    control-same l j (Some (record { bundle = i; key = k; marked = false })) b
    (no-key j (Some (record { bundle = i; key = k; marked = false })) (λ m is same. other (sym same ∙ ap (λ (m : Member). m.bundle) (sym (same_Some _ m is))))
    ∙ sym (no-key j (member_at l b) (λ m is same. absurd (never m is))))
  where
    never : (m : Member) → member_at l b ≡ Some m → ⊥
    never m is = none-some m.bundle (sym free ∙ ap (option_map (λ m. m.bundle)) is)

pub controls-left : (l j : ℕ) (b : Bundles) → bundle_at l b ≢ Some j → control_of j (left l b) ≡ control_of j b
controls-left l j b other =
    control-same l j None b (sym (no-key j (member_at l b) (λ m is same. other (ap (option_map (λ m. m.bundle)) is ∙ ap (λ i. Some i) same))))
