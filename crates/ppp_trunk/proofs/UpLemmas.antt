-- Where control protocols above LCP are Up after a link joined a bundle or left it: on each link where they are to be.
use Rattle.std.proofs.Common.{◌≡◌, ◌≢◌, ℕ, ◌≤◌, Bool, true, false, if◌then◌else◌, List, [], ◌++◌, length, refl, sym, ap, subst, ◌∙◌, inl, inr, true≢false, eq-eqb, ne_eqb, eqb-true}
use Rattle.std.specs.Prelude.{◌⊎◌, ◌==◌, ◌&&◌, Option, Some, None, option_map}
use Rattle.std.specs.List.{fold}
use Rattle.std.proofs.lemmas.List.Sums.{fold-append}
use Rattle.std.proofs.lemmas.Option.{none-some, same_Some}
use Rattle.ppp_packet.specs.declared.proto.Proto.{Proto}
use Rattle.ppp_packet.specs.declared.proto.Proto.TheVariants.{Lcp, Ip, Ipv6, Osi, Mpls, Bacp}
use Rattle.ppp_bundle.specs.BundleTable.{IsBundles, IsLinkOf}
use Rattle.ppp_bundle.specs.Bundles.{Bundles, Member, bundle_at, control_of, left}
use Rattle.ppp_bundle.specs.JoinKey.{Key}
use Rattle.ppp_bundle.specs.Joining.{join_answer, joined_as, joined_by, with_member}
use Rattle.ppp_bundle.specs.declared.join.Join.{Join}
use Rattle.ppp_bundle.specs.declared.join.Join.TheVariants.{First, Added, Single}
use Rattle.ppp_trunk.specs.Control.{Run, comes, control_run, goes, is_same_link, joined_runs, left_runs, moves, single}
use Rattle.ppp_trunk.specs.Moves.{goes_with}
use Rattle.ppp_trunk.specs.Phases.{is_up, is_up_by}
use Rattle.ppp_trunk.proofs.BundleLemmas.{control-joined, controls-joined, controls-left, none-at, others-at, own-at}
use Rattle.ppp_trunk.proofs.LinksLemmas.{same-or}

-- ---- control protocols that go Up and Down together

-- whether a control protocol of link m is Up after some went Up or Down
abbrev pub upped : ℕ → Proto → Bool → Run → Bool
upped m p up r = if (r.link == m) && goes_with p r.bacp then r.on else up

abbrev pub all_upped : ℕ → Proto → Bool → List Run → Bool
all_upped m p up rs = fold (upped m p) up rs

pub with-bacp : (p : Proto) → p ≢ Lcp → goes_with p true ≡ true
with-bacp Lcp other = absurd (other refl)
with-bacp Ip other = refl
with-bacp Ipv6 other = refl
with-bacp Osi other = refl
with-bacp Mpls other = refl
with-bacp Bacp other = refl

and-true : (b : Bool) → (b && true) ≡ b
and-true true = refl
and-true false = refl

and-false : (b : Bool) → (b && false) ≡ false
and-false true = refl
and-false false = refl

same-link-is : (c d : Option ℕ) → is_same_link c d ≡ true → c ≡ d
same-link-is None None same = refl
same-link-is None (Some d) same = absurd (true≢false (sym same))
same-link-is (Some c) None same = absurd (true≢false (sym same))
same-link-is (Some c) (Some d) same = ap (λ l. Some l) (eqb-true c d same)

-- ---- on the control link

-- they go Up or Down on the control link, if there is one
control-upped : (m : ℕ) (p : Proto) (on up : Bool) (c : Option ℕ) → goes_with p true ≡ true →
    all_upped m p up (control_run on c) ≡ (if is_same_link c (Some m) then on else up)
control-upped m p on up None with = refl
control-upped m p on up (Some c) with = ap (λ b. if b then on else up) (ap (λ b. (c == m) && b) with ∙ and-true (c == m))

moved-upped : (m : ℕ) (p : Proto) (up : Bool) (c d : Option ℕ) → goes_with p true ≡ true →
    all_upped m p up (control_run false c ++ control_run true d) ≡ (if is_same_link d (Some m) then true else if is_same_link c (Some m) then false else up)
moved-upped m p up c d with =
    fold-append (upped m p) up (control_run false c) (control_run true d)
    ∙ ap (λ up. all_upped m p up (control_run true d)) (control-upped m p false up c with)
    ∙ control-upped m p true (if is_same_link c (Some m) then false else up) d with

either-up : (was is up : Bool) → up ≡ was → (if is then true else if was then false else up) ≡ is
either-up was true up same = refl
either-up true false up same = refl
either-up false false up same = same

-- where they were on the old control link they are on the new one
moves-if : (same : Bool) (m : ℕ) (p : Proto) (up : Bool) (c d : Option ℕ) → goes_with p true ≡ true → is_same_link c d ≡ same → up ≡ is_same_link c (Some m) →
    all_upped m p up (if same then [] else control_run false c ++ control_run true d) ≡ is_same_link d (Some m)
moves-if true m p up c d with same was = was ∙ ap (λ c. is_same_link c (Some m)) (same-link-is c d same)
moves-if false m p up c d with same was = moved-upped m p up c d with ∙ either-up (is_same_link c (Some m)) (is_same_link d (Some m)) up was

moves-upped : (m : ℕ) (p : Proto) (up : Bool) (c d : Option ℕ) → goes_with p true ≡ true → up ≡ is_same_link c (Some m) →
    all_upped m p up (moves c d) ≡ is_same_link d (Some m)
moves-upped m p up c d with was = moves-if (is_same_link c d) m p up c d with refl was

-- elsewhere nothing changes
aside-if : (same : Bool) (m : ℕ) (p : Proto) (up : Bool) (c d : Option ℕ) → goes_with p true ≡ true → is_same_link c (Some m) ≡ false → is_same_link d (Some m) ≡ false →
    all_upped m p up (if same then [] else control_run false c ++ control_run true d) ≡ up
aside-if true m p up c d with was is = refl
aside-if false m p up c d with was is = moved-upped m p up c d with ∙ (λ i. if is i then true else if was i then false else up)

moves-aside : (m : ℕ) (p : Proto) (up : Bool) (c d : Option ℕ) → goes_with p true ≡ true → is_same_link c (Some m) ≡ false → is_same_link d (Some m) ≡ false →
    all_upped m p up (moves c d) ≡ up
moves-aside m p up c d with was is = aside-if (is_same_link c d) m p up c d with was is

-- a link that is gone stays Down
gone-if : (was : Bool) → (if false then true else if was then false else false) ≡ false
gone-if true = refl
gone-if false = refl

moves-gone : (m : ℕ) (p : Proto) (c d : Option ℕ) → goes_with p true ≡ true → is_same_link d (Some m) ≡ false → all_upped m p false (moves c d) ≡ false
moves-gone m p c d with is = by (is_same_link c d)
  where
    by : (same : Bool) → all_upped m p false (if same then [] else control_run false c ++ control_run true d) ≡ false
    by true = refl
    by false =
        moved-upped m p false c d with
        ∙ ap (λ b. if b then true else if is_same_link c (Some m) then false else false) is
        ∙ gone-if (is_same_link c (Some m))

-- a link isn't the control link of a bundle that it isn't in
control-other : (i m : ℕ) (b : Bundles) → IsBundles b → bundle_at m b ≢ Some i → is_same_link (control_of i b) (Some m) ≡ false
control-other i m b sound out = by (is_same_link (control_of i b) (Some m)) refl
  where
    by : (same : Bool) → is_same_link (control_of i b) (Some m) ≡ same → is_same_link (control_of i b) (Some m) ≡ false
    by true is = absurd (out (control-joined i m b sound (same-link-is (control_of i b) (Some m) is)).1)
    by false is = is

-- ---- a link whose place in the bundles stays

-- the control link of bundle i may change, and nothing else does for link m
record StaysBut (i m : ℕ) (b c : Bundles) : Type 0 where
  bundle : bundle_at m c ≡ bundle_at m b
  others : (j : ℕ) → j ≢ i → control_of j c ≡ control_of j b

in-other : (o : Option ℕ) (i j : ℕ) → o ≡ Some j → j ≢ i → o ≢ Some i
in-other o i j is other same = other (same_Some j i (sym is ∙ same))

shifts-by : (o : Option ℕ) (i m : ℕ) (p : Proto) (opened : Bool) (b c : Bundles) → goes_with p true ≡ true → IsBundles b → IsBundles c → StaysBut i m b c → bundle_at m b ≡ o →
    all_upped m p (is_up_by o p m opened b) (moves (control_of i b) (control_of i c)) ≡ is_up_by o p m opened c
shifts-by None i m p opened b c with sound whole stays is =
    moves-aside m p (goes_with p false && opened) (control_of i b) (control_of i c) with
    (control-other i m b sound (λ same. none-some i (sym is ∙ same)))
    (control-other i m c whole (λ same. none-some i (sym is ∙ (sym stays.bundle ∙ same))))
shifts-by (Some j) i m p opened b c with sound whole stays is = by (same-or j i)
  where
    by : (j ≡ i) ⊎ (j ≢ i) → all_upped m p (is_same_link (control_of j b) (Some m)) (moves (control_of i b) (control_of i c)) ≡ is_same_link (control_of j c) (Some m)
    by (inl same) =
        moves-upped m p (is_same_link (control_of j b) (Some m)) (control_of i b) (control_of i c) with (ap (λ j. is_same_link (control_of j b) (Some m)) same)
        ∙ ap (λ i. is_same_link (control_of i c) (Some m)) (sym same)
    by (inr other) =
        moves-aside m p (is_same_link (control_of j b) (Some m)) (control_of i b) (control_of i c) with
        (control-other i m b sound (in-other (bundle_at m b) i j is other))
        (control-other i m c whole (in-other (bundle_at m c) i j (stays.bundle ∙ is) other))
        ∙ ap (λ d. is_same_link d (Some m)) (sym (stays.others j other))

shifts : (i m : ℕ) (p : Proto) (opened : Bool) (b c : Bundles) → goes_with p true ≡ true → IsBundles b → IsBundles c → StaysBut i m b c →
    all_upped m p (is_up p m opened b) (moves (control_of i b) (control_of i c)) ≡ is_up p m opened c
shifts i m p opened b c with sound whole stays =
    shifts-by (bundle_at m b) i m p opened b c with sound whole stays refl
    ∙ ap (λ o. is_up_by o p m opened c) (sym stays.bundle)

-- ---- LCP came to be Opened

-- on a single link
alone-up : (l : ℕ) (p : Proto) → all_upped l p (goes_with p false && false) (single true l) ≡ (goes_with p false && true)
alone-up l p = by (l == l) (goes_with p false) (eq-eqb l l refl)
  where
    by : (same net : Bool) → same ≡ true → (if same && net then true else (net && false)) ≡ (net && true)
    by true true is = refl
    by true false is = refl
    by false net is = absurd (true≢false (sym is))

alone-aside : (l m : ℕ) (p : Proto) (on up : Bool) → m ≢ l → all_upped m p up (single on l) ≡ up
alone-aside l m p on up other = ap (λ b. if b && goes_with p false then on else up) (ne_eqb l m (λ same. other (sym same)))

free-up : (l : ℕ) (p : Proto) (opened : Bool) (b : Bundles) → bundle_at l b ≡ None → is_up p l opened b ≡ (goes_with p false && opened)
free-up l p opened b free = ap (λ o. is_up_by o p l opened b) free

-- the link itself, in bundle i
own-member : (l i : ℕ) (key : Key) (p : Proto) (b : Bundles) → goes_with p true ≡ true → IsBundles b → bundle_at l b ≡ None → 1 ≤ l → l ≤ length b.places →
    all_upped l p (is_up p l false b) (moves (control_of i b) (control_of i (with_member l key i b))) ≡ is_up p l true (with_member l key i b)
own-member l i key p b with sound free low high =
    let new = with_member l key i b in
    let is : bundle_at l new ≡ Some i = ap (option_map (λ (m : Member). m.bundle)) (own-at l (Some (record { bundle = i; key = key; marked = false })) b low high) in
    let down : is_up p l false b ≡ false = free-up l p false b free ∙ and-false (goes_with p false) in
    let out = control-other i l b sound (λ same. none-some i (sym free ∙ same)) in
    moves-upped l p (is_up p l false b) (control_of i b) (control_of i new) with (down ∙ sym out)
    ∙ ap (λ o. is_up_by o p l true new) (sym is)

own-joined : (l : ℕ) (key : Key) (p : Proto) (b : Bundles) (j : Join) → goes_with p true ≡ true → IsBundles b → bundle_at l b ≡ None → 1 ≤ l → l ≤ length b.places →
    all_upped l p (is_up p l false b) (joined_runs l j b (joined_by j l key b)) ≡ is_up p l true (joined_by j l key b)
own-joined l key p b (First i) with sound free low high = own-member l i key p b with sound free low high
own-joined l key p b (Added i) with sound free low high = own-member l i key p b with sound free low high
own-joined l key p b (Single why) with sound free low high =
    ap (λ up. all_upped l p up (single true l)) (free-up l p false b free) ∙ alone-up l p ∙ sym (free-up l p true b free)

-- any other link
other-member : (l m i : ℕ) (key : Key) (p : Proto) (opened : Bool) (b : Bundles) → goes_with p true ≡ true → IsBundles b → IsBundles (with_member l key i b) →
    bundle_at l b ≡ None → 1 ≤ l → 1 ≤ m → m ≢ l →
    all_upped m p (is_up p m opened b) (moves (control_of i b) (control_of i (with_member l key i b))) ≡ is_up p m opened (with_member l key i b)
other-member l m i key p opened b with sound whole free low least other =
    shifts i m p opened b (with_member l key i b) with sound whole (record {
      bundle = ap (option_map (λ (m : Member). m.bundle)) (others-at l m (Some (record { bundle = i; key = key; marked = false })) b low least other);
      others = λ j aside. controls-joined l i j key b free aside;
    })

other-joined : (l m : ℕ) (key : Key) (p : Proto) (opened : Bool) (b : Bundles) (j : Join) → goes_with p true ≡ true → IsBundles b → IsBundles (joined_by j l key b) →
    bundle_at l b ≡ None → 1 ≤ l → 1 ≤ m → m ≢ l →
    all_upped m p (is_up p m opened b) (joined_runs l j b (joined_by j l key b)) ≡ is_up p m opened (joined_by j l key b)
other-joined l m key p opened b (First i) with sound whole free low least other = other-member l m i key p opened b with sound whole free low least other
other-joined l m key p opened b (Added i) with sound whole free low least other = other-member l m i key p opened b with sound whole free low least other
other-joined l m key p opened b (Single why) with sound whole free low least other = alone-aside l m p true (is_up p m opened b) other

pub own-comes : (l : ℕ) (key : Key) (p : Proto) (b : Bundles) → p ≢ Lcp → IsBundles b → bundle_at l b ≡ None → IsLinkOf b l →
    all_upped l p (is_up p l false b) (comes l key b).runs ≡ is_up p l true (comes l key b).bundles
unfolding comes
own-comes l key p b net sound free of =
    own-joined l key p b (join_answer key b) (with-bacp p net) sound free of.0 (subst (λ n. l ≤ n) (sym sound.places) of.1)

pub other-comes : (l m : ℕ) (key : Key) (p : Proto) (opened : Bool) (b : Bundles) → p ≢ Lcp → IsBundles b → IsBundles (joined_as l key b) →
    bundle_at l b ≡ None → 1 ≤ l → 1 ≤ m → m ≢ l →
    all_upped m p (is_up p m opened b) (comes l key b).runs ≡ is_up p m opened (comes l key b).bundles
unfolding comes
other-comes l m key p opened b net sound whole free low least other =
    other-joined l m key p opened b (join_answer key b) (with-bacp p net) sound whole free low least other

-- ---- LCP left Opened

alone-down : (l : ℕ) (p : Proto) (opened : Bool) → all_upped l p (goes_with p false && opened) (single false l) ≡ false
alone-down l p opened = by (l == l) (goes_with p false) (eq-eqb l l refl)
  where
    by : (same net : Bool) → same ≡ true → (if same && net then false else (net && opened)) ≡ false
    by true true is = refl
    by true false is = refl
    by false net is = absurd (true≢false (sym is))

down-own : (l : ℕ) (p : Proto) (up : Bool) → goes_with p true ≡ true → all_upped l p up (control_run false (Some l)) ≡ false
down-own l p up with = control-upped l p false up (Some l) with ∙ ap (λ b. if b then false else up) (eq-eqb l l refl)

down-aside : (l m : ℕ) (p : Proto) (up : Bool) → goes_with p true ≡ true → m ≢ l → all_upped m p up (control_run false (Some l)) ≡ up
down-aside l m p up with other = control-upped m p false up (Some l) with ∙ ap (λ b. if b then false else up) (ne_eqb l m (λ same. other (sym same)))

left-none : (l : ℕ) (b : Bundles) → bundle_at l (left l b) ≡ None
left-none l b = ap (option_map (λ (m : Member). m.bundle)) (none-at l b)

left-down : (l : ℕ) (p : Proto) (b : Bundles) → is_up p l false (left l b) ≡ false
left-down l p b = free-up l p false (left l b) (left-none l b) ∙ and-false (goes_with p false)

own-left : (o : Option ℕ) (l : ℕ) (p : Proto) (opened : Bool) (b : Bundles) → goes_with p true ≡ true → IsBundles (left l b) →
    all_upped l p (is_up_by o p l opened b) (left_runs l o b (left l b)) ≡ false
own-left None l p opened b with whole = alone-down l p opened
own-left (Some i) l p opened b with whole =
    let new = left l b in
    fold-append (upped l p) (is_same_link (control_of i b) (Some l)) (control_run false (Some l)) (moves (control_of i b) (control_of i new))
    ∙ ap (λ up. all_upped l p up (moves (control_of i b) (control_of i new))) (down-own l p (is_same_link (control_of i b) (Some l)) with)
    ∙ moves-gone l p (control_of i b) (control_of i new) with (control-other i l new whole (λ same. none-some i (sym (left-none l b) ∙ same)))

same-bundles : (o : Option ℕ) (m : ℕ) (p : Proto) (opened : Bool) (b c : Bundles) → ((j : ℕ) → control_of j c ≡ control_of j b) → is_up_by o p m opened b ≡ is_up_by o p m opened c
same-bundles None m p opened b c same = refl
same-bundles (Some i) m p opened b c same = ap (λ d. is_same_link d (Some m)) (sym (same i))

other-left : (o : Option ℕ) (l m : ℕ) (p : Proto) (opened : Bool) (b : Bundles) → goes_with p true ≡ true → IsBundles b → IsBundles (left l b) → bundle_at l b ≡ o →
    bundle_at m (left l b) ≡ bundle_at m b → m ≢ l → all_upped m p (is_up p m opened b) (left_runs l o b (left l b)) ≡ is_up p m opened (left l b)
other-left None l m p opened b with sound whole is stays other =
    alone-aside l m p false (is_up p m opened b) other
    ∙ same-bundles (bundle_at m b) m p opened b (left l b) (λ j. controls-left l j b (λ same. none-some j (sym is ∙ same)))
    ∙ ap (λ o. is_up_by o p m opened (left l b)) (sym stays)
other-left (Some i) l m p opened b with sound whole is stays other =
    let new = left l b in
    fold-append (upped m p) (is_up p m opened b) (control_run false (Some l)) (moves (control_of i b) (control_of i new))
    ∙ ap (λ up. all_upped m p up (moves (control_of i b) (control_of i new))) (down-aside l m p (is_up p m opened b) with other)
    ∙ shifts i m p opened b new with sound whole (record {
      bundle = stays;
      others = λ j aside. controls-left l j b (in-other (bundle_at l b) j i is (λ same. aside (sym same)));
    })

pub own-goes : (l : ℕ) (p : Proto) (opened : Bool) (b : Bundles) → p ≢ Lcp → IsBundles (left l b) →
    all_upped l p (is_up p l opened b) (goes l b).runs ≡ is_up p l false (goes l b).bundles
unfolding goes
own-goes l p opened b net whole = own-left (bundle_at l b) l p opened b (with-bacp p net) whole ∙ sym (left-down l p b)

pub other-goes : (l m : ℕ) (p : Proto) (opened : Bool) (b : Bundles) → p ≢ Lcp → IsBundles b → IsBundles (left l b) → 1 ≤ l → 1 ≤ m → m ≢ l →
    all_upped m p (is_up p m opened b) (goes l b).runs ≡ is_up p m opened (goes l b).bundles
unfolding goes
other-goes l m p opened b net sound whole low least other =
    other-left (bundle_at l b) l m p opened b (with-bacp p net) sound whole refl
    (ap (option_map (λ (m : Member). m.bundle)) (others-at l m None b low least other)) other
