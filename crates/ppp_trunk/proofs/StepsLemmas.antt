-- Entries of a link, one after another.
use Rattle.std.proofs.Common.{◌≡◌, ◌<◌, ℕ, zero, suc, ◌+◌, ◌-◌, ◌≤◌, Bool, true, false, if◌then◌else◌, List, [], ◌∷◌, ◌++◌, drop, set, get_or, length, Some, slice_get, refl, sym, ap, subst, ◌∙◌, inl, inr, append-nil, append_assoc, arith}
use Rattle.std.specs.Prelude.{◌==◌, ◌⊎◌, IfSome, Option, None, option_map, slice_index_or, slice_set}
use Rattle.std.specs.Option.{option_eq}
use Rattle.std.proofs.lemmas.Bool.{eqb-false, eqb-true}
use Rattle.std.proofs.lemmas.Option.{slice_get-get_or}
use Rattle.ppp_bundle.specs.Bundles.{Bundles, Member, bundle_at, control_of, member_at}
use Rattle.ppp_link.specs.Link.{Link, link_with, run_did}
use Rattle.ppp_link.specs.LinkOut.{Entry as Told, LcpUp}
use Rattle.ppp_link.specs.declared.link_out.TheConstants.{MOST_PUSH}
use Rattle.ppp_trunk.specs.StationOut.{Entry, Push, all_octets}
use Rattle.ppp_bundle.specs.Bundles.{left}
use Rattle.ppp_bundle.specs.JoinKey.{Key}
use Rattle.ppp_bundle.specs.BundleTable.{IsBundleOf, IsLinkOf}
use Rattle.ppp_bundle.specs.Joining.{join_answer, joined_as, joined_to}
use Rattle.ppp_bundle.specs.declared.join.Join.{Join}
use Rattle.ppp_bundle.specs.declared.join.Join.TheVariants.{First, Added, Single}
use Rattle.ppp_bundle.specs.declared.join.SingleWhy.{SingleWhy}
use Rattle.ppp_bundle.specs.declared.limits.Limits.{Limits}
use Rattle.ppp_bundle.specs.declared.limits.TheConstants.{MOST_BUNDLES}
use Rattle.ppp_trunk.specs.Trunk.{IsOfLink, limits_of}
use Rattle.ppp_trunk.specs.Control.{Run, comes, control_run, goes, is_same_link, joined_runs, key_in, left_runs, moves}
use Rattle.ppp_trunk.specs.Steps.{Done, InTurn, all_plain, comes_up, follows, plain, runs, runs_all, runs_at, so_far, with_link, works, works_one}
use Rattle.ppp_trunk.proofs.ListLemmas.{drop-get}
use Rattle.ppp_trunk.proofs.RunLemmas.{run-down-quiet}
use Rattle.ppp_trunk.proofs.TrunkLemmas.{set-is}
use Rattle.ppp_trunk.proofs.TurnLemmas.{turn-next, turn-now}
use Rattle.ppp_trunk.proofs.StationOutLemmas.{all_octets-append}

-- a frame more
pub push-octets : (es : List Entry) (link : ℕ) (octets : List ℕ) → length octets ≤ MOST_PUSH → all_octets (es ++ Push link octets ∷ []) ≤ all_octets es + MOST_PUSH
push-octets es link octets short = let sum = all_octets-append es (Push link octets ∷ []) in omega arith

-- one entry is plain, and the rest is left
pub plain-next : (l : ℕ) (es : List Told) (i : ℕ) (e : Told) (before now whole : List Entry) → slice_get es i ≡ Some e →
    now ≡ before ++ plain l e → before ++ all_plain l (drop i es) ≡ whole → now ++ all_plain l (drop (suc i) es) ≡ whole
plain-next l es i e before now whole is told left =
    rw told (append_assoc before (plain l e) (all_plain l (drop (suc i) es)) ∙ rw (drop-get es i e is) at left)

-- one entry is worked off, and the rest is left
pub works-next : (l word : ℕ) (es : List Told) (i : ℕ) (e : Told) (before now whole : Done) → slice_get es i ≡ Some e →
    now ≡ works_one l word e before → works l word (drop i es) before ≡ whole → works l word (drop (suc i) es) now ≡ whole
unfolding works
works-next l word es i e before now whole is done left =
    let step : works l word (e ∷ drop (suc i) es) before ≡ whole = rw (drop-get es i e is) at left in
    rw done step

-- LCP's signals come in turn, entry by entry
pub turns-now : (l : ℕ) (b : Bundles) (es : List Told) (i : ℕ) (e : Told) → slice_get es i ≡ Some e → InTurn l b (drop i es) → e ≡ LcpUp → bundle_at l b ≡ None
turns-now l b es i e is turn up =
    turn-now l b (drop (suc i) es) (subst (λ e. InTurn l b (e ∷ drop (suc i) es)) up (subst (InTurn l b) (drop-get es i e is) turn))

pub turns-next : (l word : ℕ) (es : List Told) (i : ℕ) (e : Told) (before now : Done) → slice_get es i ≡ Some e → now ≡ works_one l word e before →
    InTurn l before.bundles (drop i es) → InTurn l now.bundles (drop (suc i) es)
turns-next l word es i e before now is done turn =
    subst (λ (d : Done). InTurn l d.bundles (drop (suc i) es)) (sym done)
    (turn-next l word e (drop (suc i) es) before (subst (InTurn l before.bundles) (drop-get es i e is) turn))

-- control protocols that go Down send nothing
pub quiet-run : (k : Link) (bacp : Bool) (word l : ℕ) (on : Bool) (told : List Told) (before now : List Entry) → told ≡ (run_did k on bacp word).out → now ≡ before ++ all_plain l told → on ≡ false → now ≡ before
quiet-run k bacp word l on told before now did pushed down =
    pushed ∙ ap (λ es. before ++ all_plain l es) (did ∙ ap (λ on. (run_did k on bacp word).out) down) ∙ ap (λ es. before ++ es) (run-down-quiet k bacp word l) ∙ append-nil before

-- control protocols of a link go Up or Down
pub run-is : (links : List Link) (l at word : ℕ) (on bacp : Bool) (d old begun : Link) (told : List Told) (before now : List Entry) →
    at ≡ l - 1 → 1 ≤ l → l ≤ length links → old ≡ get_or links at d → begun ≡ link_with old (run_did old on bacp word) → told ≡ (run_did old on bacp word).out →
    now ≡ before ++ all_plain l told → (b : Bundles) → so_far (set links at begun) b now ≡ runs word (record { link = l; on = on; bacp = bacp }) (so_far links b before)
unfolding runs
run-is links l at word on bacp d old begun told before now at_is low high old_is ran did pushed b =
    let there : slice_get links (l - 1) ≡ Some old = ap (slice_get links) (sym at_is) ∙ slice_get-get_or links at d (omega (arith, at_is)) ∙ ap (λ (k : Link). Some k) (sym old_is) in
    let set_at : set links at begun ≡ with_link l (link_with old (run_did old on bacp word)) links =
    (λ i. set links (at_is i) (ran i)) ∙ sym (set-is links l (link_with old (run_did old on bacp word)) low high) in
    let entries : now ≡ before ++ all_plain l (run_did old on bacp word).out = pushed ∙ ap (λ es. before ++ all_plain l es) did in
    (λ i. so_far (set_at i) b (entries i)) ∙ ap (λ o. runs_at (record { link = l; on = on; bacp = bacp }) word o (so_far links b before)) (sym there)

-- ---- the control link moves

same-option : (old new : Option ℕ) → option_eq (λ a b. a == b) old new ≡ is_same_link old new
same-option None None = refl
same-option None (Some m) = refl
same-option (Some l) None = refl
same-option (Some l) (Some m) = refl

pub runs-both : (word : ℕ) (rs more : List Run) (done : Done) → runs_all word (rs ++ more) done ≡ runs_all word more (runs_all word rs done)
unfolding runs_all
runs-both word [] more done = refl
runs-both word (r ∷ rs) more done = runs-both word rs more (runs word r done)

runs-one : (word : ℕ) (r : Run) (done : Done) → runs_all word (r ∷ []) done ≡ runs word r done
unfolding runs_all
runs-one word r done = refl

-- what was done to links and to entries is what these runs do, whatever the bundles
pub record DoesRuns (word : ℕ) (rs : List Run) (links now : List Link) (before after : List Entry) : Type 0 where
  pub is : (b : Bundles) → so_far now b after ≡ runs_all word rs (so_far links b before)

pub does-none : (word : ℕ) (links : List Link) (before : List Entry) → DoesRuns word [] links links before before
unfolding runs_all
does-none word links before = record { is = λ b. refl }

pub does-run : (word : ℕ) (r : Run) (links now : List Link) (before after : List Entry) → ((b : Bundles) → so_far now b after ≡ runs word r (so_far links b before)) →
    DoesRuns word (r ∷ []) links now before after
does-run word r links now before after is = record { is = λ b. is b ∙ sym (runs-one word r (so_far links b before)) }

pub does-both : (word : ℕ) (rs more : List Run) (a b c : List Link) (x y z : List Entry) → DoesRuns word rs a b x y → DoesRuns word more b c y z → DoesRuns word (rs ++ more) a c x z
does-both word rs more a b c x y z first second = record {
  is = λ t. second.is t ∙ ap (runs_all word more) (first.is t) ∙ sym (runs-both word rs more (so_far a t x));
}

-- no run on a control link that isn't there
pub control-none : (word : ℕ) (on : Bool) (o : Option ℕ) (links now : List Link) (before after : List Entry) → o ≡ None → now ≡ links → after ≡ before →
    DoesRuns word (control_run on o) links now before after
control-none word on o links now before after none links_is entries_is =
    subst (λ o. DoesRuns word (control_run on o) links now before after) (sym none)
    (subst (λ ks. DoesRuns word [] links ks before after) (sym links_is) (subst (λ es. DoesRuns word [] links links before es) (sym entries_is) (does-none word links before)))

pub control-some : (word l : ℕ) (on : Bool) (o : Option ℕ) (links now : List Link) (before after : List Entry) → o ≡ Some l →
    ((b : Bundles) → so_far now b after ≡ runs word (record { link = l; on = on; bacp = true }) (so_far links b before)) → DoesRuns word (control_run on o) links now before after
control-some word l on o links now before after some is =
    subst (λ o. DoesRuns word (control_run on o) links now before after) (sym some) (does-run word (record { link = l; on = on; bacp = true }) links now before after is)

moves-same : (old new : Option ℕ) (same : Bool) → is_same_link old new ≡ same → moves old new ≡ (if same then [] else control_run false old ++ control_run true new)
moves-same old new same e = ap (λ b. if b then [] else control_run false old ++ control_run true new) e

pub moved-same : (word : ℕ) (old new : Option ℕ) (same : Bool) (links : List Link) (before : List Entry) → same ≡ option_eq (λ a b. a == b) old new → same ≡ true →
    DoesRuns word (moves old new) links links before before
moved-same word old new same links before eq is =
    subst (λ rs. DoesRuns word rs links links before before) (sym (moves-same old new true (sym (same-option old new) ∙ sym eq ∙ is))) (does-none word links before)

pub moved-other : (word : ℕ) (old new : Option ℕ) (same : Bool) (a b c : List Link) (x y z : List Entry) → same ≡ option_eq (λ a b. a == b) old new → same ≡ false →
    DoesRuns word (control_run false old) a b x y → DoesRuns word (control_run true new) b c y z → DoesRuns word (moves old new) a c x z
moved-other word old new same a b c x y z eq is first second =
    subst (λ rs. DoesRuns word rs a c x z) (sym (moves-same old new false (sym (same-option old new) ∙ sym eq ∙ is))) (does-both word (control_run false old) (control_run true new) a b c x y z first second)

-- ---- LCP left Opened

pub goes-is : (l word : ℕ) (i : Option ℕ) (old new : Bundles) (links now : List Link) (before after : List Entry) → bundle_at l old ≡ i → new ≡ left l old →
    DoesRuns word (left_runs l i old new) links now before after → so_far now new after ≡ follows word (goes l old) (so_far links old before)
unfolding goes
goes-is l word i old new links now before after at is does =
    ap (λ b. so_far now b after) is ∙ does.is (left l old)
    ∙ ap (λ b. runs_all word (left_runs l i old b) (so_far links (left l old) before)) is
    ∙ ap (λ o. runs_all word (left_runs l o old (left l old)) (so_far links (left l old) before)) (sym at)

-- ---- LCP came to be Opened

pub comes-is : (l word : ℕ) (k : Link) (key : Key) (answer : Join) (old new : Bundles) (links now : List Link) (before after : List Entry) → slice_get links (l - 1) ≡ Some k →
    key ≡ key_in k.automata.lcp → answer ≡ join_answer key old → new ≡ joined_as l key old → DoesRuns word (joined_runs l answer old new) links now before after →
    so_far now new after ≡ works_one l word LcpUp (so_far links old before)
unfolding works_one comes
comes-is l word k key answer old new links now before after at key_is answered is does =
    ap (λ b. so_far now b after) is ∙ does.is (joined_as l key old)
    ∙ ap (λ b. runs_all word (joined_runs l answer old b) (so_far links (joined_as l key old) before)) is
    ∙ ap (λ a. runs_all word (joined_runs l a old (joined_as l key old)) (so_far links (joined_as l key old) before)) answered
    ∙ ap (λ key. runs_all word (joined_runs l (join_answer key old) old (joined_as l key old)) (so_far links (joined_as l key old) before)) key_is
    ∙ ap (λ o. comes_up l word o (so_far links old before)) (sym at)

-- a link that is in no bundle leaves none
set-none : (ps : List (Option Member)) (i : ℕ) → slice_index_or ps i None ≡ None → slice_set ps i None ≡ ps
set-none [] i none = refl
set-none (p ∷ ps) zero none = ap (λ x. x ∷ ps) (sym none)
set-none (p ∷ ps) (suc i) none = ap (λ xs. p ∷ xs) (set-none ps i none)

no-member : (o : Option Member) → option_map (λ (m : Member). m.bundle) o ≡ None → o ≡ None
no-member None none = refl
no-member (Some m) none = absurd (cc)

pub left-alone : (l : ℕ) (b : Bundles) → bundle_at l b ≡ None → left l b ≡ b
left-alone l b none = ap (λ ps. record b { places = ps }) (set-none b.places (l - 1) (no-member (member_at l b) none))

-- the control links that were looked up are those of the bundle
pub controls-are : (word l i : ℕ) (old new : Bundles) (before after : Option ℕ) (a c : List Link) (x z : List Entry) → before ≡ control_of i old → after ≡ control_of i new →
    DoesRuns word ((record { link = l; on = false; bacp = true } ∷ []) ++ moves before after) a c x z → DoesRuns word (left_runs l (Some i) old new) a c x z
controls-are word l i old new before after a c x z old_is new_is does =
    subst (λ o. DoesRuns word (control_run false (Some l) ++ moves o (control_of i new)) a c x z) old_is
    (subst (λ o. DoesRuns word (control_run false (Some l) ++ moves before o) a c x z) new_is does)

-- ---- the control links of all bundles

pub controls-next : (cs : List (Option ℕ)) (i : ℕ) (x : Option ℕ) (f : ℕ → Option ℕ) → i < length cs → x ≡ f i → ((j : ℕ) → j < i → slice_get cs j ≡ Some (f j)) →
    (j : ℕ) → j < suc i → slice_get (set cs i x) j ≡ Some (f j)
controls-next [] i x f less is all j below = absurd (omega arith)
controls-next (c ∷ cs) zero x f less is all zero below = ap (λ o. Some o) is
controls-next (c ∷ cs) zero x f less is all (suc j) below = absurd (omega arith)
controls-next (c ∷ cs) (suc i) x f less is all zero below = all zero (omega arith)
controls-next (c ∷ cs) (suc i) x f less is all (suc j) below =
    controls-next cs i x (λ n. f (suc n)) (omega arith) is (λ n h. all (suc n) (omega arith)) j (omega arith)

-- of each number below, and of that one
pub one-more : (P : ℕ → Type 0) (i : ℕ) → P i → ((j : ℕ) → j < i → P j) → (j : ℕ) → j < suc i → P j
one-more P i here all j below = by (j == i) refl
  where
    by : (b : Bool) → (j == i) ≡ b → P j
    by true e = subst P (sym (eqb-true j i e)) here
    by false e = let other = eqb-false j i e in all j (grind (arith, below, other))

-- ---- what a link joined

pub joined-bundle : (answer : Join) (b : ℕ) → (answer ≡ First b) ⊎ (answer ≡ Added b) → joined_to answer ≡ Some b
joined-bundle answer b (inl is) = ap joined_to is
joined-bundle answer b (inr is) = ap joined_to is

pub joined-below : (answer : Join) (b : ℕ) (t : Bundles) (n : ℕ) → (answer ≡ First b) ⊎ (answer ≡ Added b) → t.limits ≡ limits_of n → IfSome (joined_to answer) (IsBundleOf t) → b < MOST_BUNDLES
joined-below answer b t n is limits within =
    let below : b < t.limits.bundles = subst (λ o. IfSome o (IsBundleOf t)) (joined-bundle answer b is) within in
    let same = ap (λ (n : Limits). n.bundles) limits in
    omega (arith, below, same)

pub of-link : (o : Option ℕ) (t : Bundles) (n : ℕ) (control : Option ℕ) → o ≡ control → t.limits ≡ limits_of n → IfSome control (IsLinkOf t) → IfSome o (λ l. IsOfLink n l)
of-link o t n control is limits within = subst (λ o. IfSome o (λ l. IsOfLink n l)) (sym is) (by control within)
  where
    by : (o : Option ℕ) → IfSome o (IsLinkOf t) → IfSome o (λ l. IsOfLink n l)
    by None here = tt
    by (Some l) here = subst (λ (m : Limits). (1 ≤ l) × (l ≤ m.links)) limits here

pub joined-single : (word l : ℕ) (answer : Join) (old new : Bundles) (why : SingleWhy) (a c : List Link) (x z : List Entry) → answer ≡ Single why →
    ((b : Bundles) → so_far c b z ≡ runs word (record { link = l; on = true; bacp = false }) (so_far a b x)) → DoesRuns word (joined_runs l answer old new) a c x z
joined-single word l answer old new why a c x z is does =
    subst (λ j. DoesRuns word (joined_runs l j old new) a c x z) (sym is) (does-run word (record { link = l; on = true; bacp = false }) a c x z does)

joined-is : (l b : ℕ) (answer : Join) (old new : Bundles) → (answer ≡ First b) ⊎ (answer ≡ Added b) → joined_runs l answer old new ≡ moves (control_of b old) (control_of b new)
joined-is l b answer old new (inl is) = ap (λ j. joined_runs l j old new) is
joined-is l b answer old new (inr is) = ap (λ j. joined_runs l j old new) is

pub joined-moves : (word l b : ℕ) (answer : Join) (old new : Bundles) (before after : Option ℕ) (a c : List Link) (x z : List Entry) → (answer ≡ First b) ⊎ (answer ≡ Added b) →
    before ≡ control_of b old → after ≡ control_of b new → ((t : Bundles) → so_far c t z ≡ runs_all word (moves before after) (so_far a t x)) → DoesRuns word (joined_runs l answer old new) a c x z
joined-moves word l b answer old new before after a c x z is old_is new_is does =
    let moved : DoesRuns word (moves before after) a c x z = record { is = does } in
    subst (λ rs. DoesRuns word rs a c x z) (sym (joined-is l b answer old new is))
    (subst (λ o. DoesRuns word (moves o (control_of b new)) a c x z) old_is (subst (λ o. DoesRuns word (moves before o) a c x z) new_is moved))
