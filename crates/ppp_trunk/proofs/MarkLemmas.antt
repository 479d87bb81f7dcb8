-- A link that is marked stays joined as it was.
use Rattle.std.proofs.Common.{◌≡◌, ◌∙◌, ◌+◌, ◌-◌, ℕ, zero, suc, Bool, List, [], ◌∷◌, map, get_or, set, refl, sym, subst, ap}
use Rattle.std.specs.Prelude.{Option, Some, None}
use Rattle.std.specs.Option.{option_map}
use Rattle.ppp_auto.specs.Auto.{Auto, is_opened}
use Rattle.ppp_packet.specs.declared.proto.Proto.{Proto}
use Rattle.ppp_bundle.specs.Bundles.{Bundles, Member, bundle_at, control_by, control_of, key_in, marked_at, member_at, with_mark}
use Rattle.ppp_bundle.proofs.BundlesLemmas.{sound-marked}
use Rattle.ppp_link.specs.Automata.{auto_at}
use Rattle.ppp_link.specs.Link.{Link}
use Rattle.ppp_trunk.specs.Control.{is_same_link}
use Rattle.ppp_trunk.specs.Phases.{IsJoinedBy, IsPhased, IsTrunk, IsUpWhere, is_up, is_up_by}
use Rattle.ppp_trunk.specs.Trunk.{Trunk}

-- what looks at no mark sees the same
map-marked : {A : Type 0} (f : Option Member → A) → ((m : Option Member) → f (option_map with_mark m) ≡ f m) → (ps : List (Option Member)) (i : ℕ) →
    map f (set ps i (option_map with_mark (get_or ps i None))) ≡ map f ps
map-marked f h [] i = refl
map-marked f h (p ∷ ps) zero = ap (λ x. x ∷ map f ps) (h p)
map-marked f h (p ∷ ps) (suc i) = ap (λ xs. f p ∷ xs) (map-marked f h ps i)

at-marked : {A : Type 0} (f : Option Member → A) → ((m : Option Member) → f (option_map with_mark m) ≡ f m) → (ps : List (Option Member)) (i j : ℕ) →
    f (get_or (set ps i (option_map with_mark (get_or ps i None))) j None) ≡ f (get_or ps j None)
at-marked f h [] i j = refl
at-marked f h (p ∷ ps) zero zero = h p
at-marked f h (p ∷ ps) zero (suc j) = refl
at-marked f h (p ∷ ps) (suc i) zero = refl
at-marked f h (p ∷ ps) (suc i) (suc j) = at-marked f h ps i j

key-marked : (b : ℕ) (m : Option Member) → key_in b (option_map with_mark m) ≡ key_in b m
key-marked b None = refl
key-marked b (Some m) = refl

own-marked : {A : Type 0} (f : Member → A) → ((m : Member) → f (with_mark m) ≡ f m) → (m : Option Member) → option_map f (option_map with_mark m) ≡ option_map f m
own-marked f h None = refl
own-marked f h (Some m) = ap (λ x. Some x) (h m)

pub control-marked : (b l : ℕ) (t : Bundles) → control_of b (marked_at l t) ≡ control_of b t
control-marked b l t = ap control_by (map-marked (key_in b) (key-marked b) t.places (l - 1))

pub bundle-marked : (i l : ℕ) (t : Bundles) → bundle_at i (marked_at l t) ≡ bundle_at i t
bundle-marked i l t = at-marked (option_map (λ (m : Member). m.bundle)) (own-marked (λ (m : Member). m.bundle) (λ m. refl)) t.places (l - 1) (i - 1)

joined-marked : (i l : ℕ) (t : Bundles) → option_map (λ (m : Member). m.key) (member_at i (marked_at l t)) ≡ option_map (λ (m : Member). m.key) (member_at i t)
joined-marked i l t = at-marked (option_map (λ (m : Member). m.key)) (own-marked (λ (m : Member). m.key) (λ m. refl)) t.places (l - 1) (i - 1)

-- what a link is joined by
joined-as : (now before : Option Member) (lcp : Auto) → option_map (λ (m : Member). m.key) now ≡ option_map (λ (m : Member). m.key) before → IsJoinedBy before lcp → IsJoinedBy now lcp
joined-as None before lcp e h = tt
joined-as (Some m) None lcp e h = cc
joined-as (Some m) (Some n) lcp e h = let same : m.key ≡ n.key = cc in (h.0, same ∙ h.1)

up-by : (at : Option ℕ) (p : Proto) (l m : ℕ) (opened : Bool) (t : Bundles) → is_up_by at p l opened (marked_at m t) ≡ is_up_by at p l opened t
up-by None p l m opened t = refl
up-by (Some i) p l m opened t = ap (λ c. is_same_link c (Some l)) (control-marked i m t)

up-marked : (p : Proto) (l m : ℕ) (opened : Bool) (t : Bundles) → is_up p l opened (marked_at m t) ≡ is_up p l opened t
up-marked p l m opened t = ap (λ at. is_up_by at p l opened (marked_at m t)) (bundle-marked l m t) ∙ up-by (bundle_at l t) p l m opened t

phased-marked : (l m : ℕ) (t : Bundles) (k : Link) → IsPhased l t k → IsPhased l (marked_at m t) k
unfolding IsPhased
phased-marked l m t k h = λ p above. subst (λ up. IsUpWhere up (auto_at k.automata p)) (sym (up-marked p l m (is_opened k.automata.lcp.state) t)) (h p above)

pub trunk-marked : (l : ℕ) (st : Trunk) → IsTrunk st → IsTrunk (record st { bundles = marked_at l st.bundles })
unfolding IsTrunk
trunk-marked l st h = record {
  limits = h.limits;
  bundles = sound-marked l st.bundles h.bundles;
  joined = λ i k there. joined-as _ _ k.automata.lcp (joined-marked (i + 1) l st.bundles) (h.joined i k there);
  phased = λ i k there. phased-marked (i + 1) l st.bundles k (h.phased i k there);
}
