-- The links of a trunk, one after another.
use Rattle.std.proofs.Common.{◌≡◌, ℕ, zero, suc, ◌+◌, ◌-◌, ◌<◌, ◌≤◌, List, [], ◌∷◌, ◌++◌, take, drop, length, map, set, get_or, Some, slice_get, refl, sym, ap, ◌∙◌, arith}
use Rattle.std.specs.List.{AllByRecursion}
use Rattle.std.proofs.lemmas.List.{map-append}
use Rattle.std.proofs.lemmas.Option.{slice_get-get_or}
use Rattle.ppp_conf.specs.EndConfig.{EndSettings}
use Rattle.ppp_link.specs.LinkOut.{Entry as Told}
use Rattle.ppp_link.specs.LinkSettings.{settings_of}
use Rattle.ppp_link.specs.LinkTables.{tables_seen}
use Rattle.ppp_link.specs.Proto.{nets}
use Rattle.ppp_packet.specs.declared.proto.Proto.TheVariants.{Bacp}
use Rattle.ppp_packet.specs.declared.proto.Proto.{Proto}
use Rattle.ppp_auto.specs.declared.auto_event.AutoEvent.TheVariants.{AdminOpen}
use Rattle.ppp_link.specs.Link.{Fed, Link, event_did, link_begun, link_with}
use Rattle.ppp_bundle.specs.Bundles.{Bundles}
use Rattle.ppp_trunk.specs.Trunk.{Trunk, Stepped, all_settings, held_in, link_ready, on_link, opens_all, settings_in, stepped_by, IsReady}
use Rattle.ppp_trunk.specs.StationOut.{Entry, Out}
use Rattle.ppp_trunk.specs.Steps.{Happening, fed_seen, link_does, so_far, with_link, works}
use Rattle.ppp_trunk.proofs.ListLemmas.{drop-get}

-- one protocol is to be opened, and the rest is left
pub opens-next : (ps : List Proto) (i : ℕ) (p : Proto) (before now whole : Link) → slice_get ps i ≡ Some p →
    now ≡ link_with before (event_did before p AdminOpen 0) → opens_all (drop i ps) before ≡ whole → opens_all (drop (suc i) ps) now ≡ whole
unfolding opens_all
opens-next ps i p before now whole is done left =
    let step : opens_all (p ∷ drop (suc i) ps) before ≡ whole = rw (drop-get ps i p is) at left in
    rw done step

-- what one link keeps, and the rest is left
pub held-next : (ks : List Link) (i : ℕ) (k : Link) (held one whole : ℕ) → slice_get ks i ≡ Some k → one ≡ length k.deframer.standing.plain →
    held + held_in (drop i ks) ≡ whole → held + one + held_in (drop (suc i) ks) ≡ whole
held-next ks i k held one whole is keeps left =
    let step : held + held_in (k ∷ drop (suc i) ks) ≡ whole = rw (drop-get ks i k is) at left in
    omega (arith, step, keeps)

opens-tables : (ps : List Proto) (k : Link) → (opens_all ps k).tables ≡ k.tables
unfolding opens_all
opens-tables [] k = refl
opens-tables (p ∷ ps) k = opens-tables ps (link_with k (event_did k p AdminOpen 0))

-- a link that is begun and opened
pub tables_from : (ps : List Proto) (before k : Link) → k ≡ opens_all ps before → k.tables ≡ before.tables
tables_from ps before k is = ap (λ (k : Link). k.tables) is ∙ opens-tables ps before

pub ready_from : (before k : Link) → before ≡ link_begun before.tables → k ≡ opens_all (nets ++ Bacp ∷ []) before → k ≡ link_ready k.tables
ready_from before k begun is =
    is ∙ (ap (opens_all (nets ++ Bacp ∷ [])) begun ∙ ap link_ready (sym (tables_from (nets ++ Bacp ∷ []) before k is)))

-- the settings of one link more
pub settings-snoc : (n number : ℕ) (s : EndSettings) → all_settings (suc n) number s ≡ all_settings n number s ++ settings_of (number + n) s ∷ []
settings-snoc zero number s = ap (λ l. settings_of l s ∷ []) (omega arith)
settings-snoc (suc n) number s =
    ap (λ more. settings_of number s ∷ more) (settings-snoc n (number + 1) s ∙ ap (λ l. all_settings n (number + 1) s ++ settings_of l s ∷ []) (omega arith))

pub ready-snoc : (ks : List Link) (k : Link) → AllByRecursion IsReady ks → IsReady k → AllByRecursion IsReady (ks ++ k ∷ [])
ready-snoc [] k all one = (one, tt)
ready-snoc (x ∷ xs) k all one = (all.0, ready-snoc xs k all.1 one)

-- a link of a list is set
set-at : (ks : List Link) (l : ℕ) (k : Link) → l < length ks → with_link (suc l) k ks ≡ set ks l k
set-at [] l k h = absurd (omega arith)
set-at (x ∷ xs) zero k h = refl
set-at (x ∷ xs) (suc l) k h = ap (λ ks. x ∷ ks) (set-at xs l k (omega arith))

pub set-is : (ks : List Link) (l : ℕ) (k : Link) → 1 ≤ l → l ≤ length ks → with_link l k ks ≡ set ks (l - 1) k
set-is ks l k low high =
    let e : l ≡ suc (l - 1) = omega arith in
    ap (λ n. with_link n k ks) e ∙ set-at ks (l - 1) k (omega arith)

-- the first links are changed, and one more
pub mapped-next : (f : Link → Link) (ks : List Link) (i : ℕ) (k : Link) → slice_get ks i ≡ Some k →
    set (map f (take i ks) ++ drop i ks) i (f k) ≡ map f (take (suc i) ks) ++ drop (suc i) ks
mapped-next f [] i k is = absurd (cc)
mapped-next f (x ∷ xs) zero k is = let same : x ≡ k = cc in rw same refl
mapped-next f (x ∷ xs) (suc i) k is = ap (λ ks. f x ∷ ks) (mapped-next f xs i k is)

pub mapped-get : (f : Link → Link) (ks : List Link) (i : ℕ) → slice_get (map f (take i ks) ++ drop i ks) i ≡ slice_get ks i
mapped-get f [] zero = refl
mapped-get f [] (suc i) = refl
mapped-get f (x ∷ xs) zero = refl
mapped-get f (x ∷ xs) (suc i) = mapped-get f xs i

-- ---- what the code does, link by link

pub settings-put : (ks : List Link) (k : Link) (i : ℕ) (s : EndSettings) → settings_in ks ≡ all_settings i 1 s → tables_seen k.tables ≡ settings_of (i + 1) s →
    settings_in (ks ++ k ∷ []) ≡ all_settings (suc i) 1 s
settings-put ks k i s all one =
    let at : settings_of (i + 1) s ≡ settings_of (1 + i) s = ap (λ l. settings_of l s) (omega arith) in
    map-append (λ (k : Link). tables_seen k.tables) ks (k ∷ [])
    ∙ ap (λ xs. xs ++ tables_seen k.tables ∷ []) all
    ∙ ap (λ x. all_settings i 1 s ++ x ∷ []) (one ∙ at)
    ∙ sym (settings-snoc i 1 s)

pub reset-next : (f : Link → Link) (ks now : List Link) (i : ℕ) (d k : Link) → i < length now → now ≡ map f (take i ks) ++ drop i ks → k ≡ f (get_or now i d) →
    set now i k ≡ map f (take (suc i) ks) ++ drop (suc i) ks
reset-next f ks now i d k less is new =
    let there : slice_get ks i ≡ Some (get_or now i d) = sym (mapped-get f ks i) ∙ ap (λ xs. slice_get xs i) (sym is) ∙ slice_get-get_or now i d less in
    ap (λ xs. set xs i k) is ∙ ap (set (map f (take i ks) ++ drop i ks) i) new ∙ mapped-next f ks i (get_or now i d) there

-- a link's own step, what follows from it, and the trunk after that
pub record IsStepped (what : Happening) (l word : ℕ) (old new : Trunk) (told : Out) : Type 0 where
  pub trunk : new ≡ (on_link what l old word).trunk
  pub out : told ≡ (on_link what l old word).out

pub happen-is : (what : Happening) (l at word : ℕ) (st : Trunk) (d old begun : Link) (links : List Link) (b : Bundles) (told : List Told) (used : ℕ) (begins entries : List Entry) →
    at ≡ l - 1 → 1 ≤ l → l ≤ length st.links → old ≡ get_or st.links at d → fed_seen begun told used ≡ link_does what old word →
    begins ≡ [] → so_far links b entries ≡ works l word told (so_far (set st.links at begun) st.bundles begins) →
    IsStepped what l word st (record { links = links; bundles = b }) (record { entries = entries; used = used })
happen-is what l at word st d old begun links b told used begins entries at_is low high old_is fed none worked =
    let there : slice_get st.links (l - 1) ≡ Some old = ap (slice_get st.links) (sym at_is) ∙ slice_get-get_or st.links at d (omega (arith, at_is)) ∙ ap (λ (k : Link). Some k) (sym old_is) in
    let set_at : set st.links at begun ≡ with_link l begun st.links = ap (λ n. set st.links n begun) at_is ∙ sym (set-is st.links l begun low high) in
    let is : so_far links b entries ≡ works l word (link_does what old word).out (so_far (with_link l (link_does what old word).link st.links) st.bundles []) =
    worked ∙ ap (λ es. works l word told (so_far (set st.links at begun) st.bundles es)) none
    ∙ ap (λ ks. works l word told (so_far ks st.bundles [])) set_at
    ∙ ap (λ (f : Fed). works l word f.out (so_far (with_link l f.link st.links) st.bundles [])) fed in
    let step = ap (stepped_by what l st word) (sym there) in
    record {
      trunk = (λ i. record { links = (is i).links; bundles = (is i).bundles }) ∙ ap (λ (s : Stepped). s.trunk) step;
      out = (λ i. record { entries = (is i).out; used = (fed i).used }) ∙ ap (λ (s : Stepped). s.out) step;
    }
