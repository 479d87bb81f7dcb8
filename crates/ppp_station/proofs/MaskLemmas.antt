-- A link of a bundle's set of links is joined in the bundle.
use Rattle.std.proofs.Common.{◌≡◌, ◌∙◌, ◌+◌, ◌-◌, ◌*◌, ◌<◌, ◌≤◌, ℕ, zero, suc, Bool, true, false, List, [], ◌∷◌, length, map, get_or, refl, sym, ap, arith}
use Rattle.std.specs.Prelude.{Option, Some, None, ◌%◌, ◌/◌, ◌==◌, ◌&&◌, nat_le, if◌then◌else◌, is_some}
use Rattle.std.specs.Int.{bit_at}
use Rattle.std.specs.Option.{option_map}
use Rattle.std.proofs.lemmas.Bool.{and_parts}
use Rattle.std.proofs.lemmas.Bool.Decides.{nat_tests}
use Rattle.std.proofs.lemmas.Nat.Bits.{bit_at_lowest, bit_at-suc, bit_at-zero}
use Rattle.ppp_bap.specs.LinkSet.{has_link}
use Rattle.ppp_bundle.specs.Bundles.{Bundles, Member, bit, bundle_at, joined_in, key_in, mask}
use Rattle.ppp_bundle.specs.JoinKey.{Key}

-- whether there is a true one at a place
set-at : List Bool → ℕ → Bool
set-at xs i = get_or xs i false

lowest : (x : Bool) (m : ℕ) → (bit x + 2 * m) % 2 ≡ 1 → x ≡ true
lowest true m e = refl
lowest false m e = absurd (omega (arith, e))

half : (x : Bool) (m : ℕ) → (bit x + 2 * m) / 2 ≡ m
half true m = omega arith
half false m = omega arith

mask-at : (xs : List Bool) (i : ℕ) → bit_at (mask xs) i ≡ 1 → set-at xs i ≡ true
unfolding set-at
mask-at [] i e = absurd (omega (arith, e, bit_at-zero i))
mask-at (x ∷ xs) zero e = lowest x (mask xs) (sym (bit_at_lowest (bit x + 2 * mask xs)) ∙ e)
mask-at (x ∷ xs) (suc i) e =
    mask-at xs i (ap (λ n. bit_at n i) (sym (half x (mask xs))) ∙ sym (bit_at-suc (bit x + 2 * mask xs) i) ∙ e)

-- what is joined at a place
key-bundle : (b : ℕ) (p : Option Member) → is_some (key_in b p) ≡ true → option_map (λ (m : Member). m.bundle) p ≡ Some b
key-bundle b None e = absurd (cc)
key-bundle b (Some m) e = by (m.bundle == b) refl e where
  by : (same : Bool) → (m.bundle == b) ≡ same → is_some (if◌then◌else◌ {A = Option Key} same (Some m.key) None) ≡ true → Some m.bundle ≡ Some b
  by true is e = let same : m.bundle ≡ b = grind (arith, nat_tests) in ap (λ x. Some x) same
  by false is e = absurd (cc)

place-joined : (b : ℕ) (ps : List (Option Member)) (i : ℕ) → set-at (map (λ p. is_some (key_in b p)) ps) i ≡ true →
    option_map (λ (m : Member). m.bundle) (get_or ps i None) ≡ Some b
unfolding set-at
place-joined b [] i e = absurd (cc)
place-joined b (p ∷ ps) zero e = key-bundle b p e
place-joined b (p ∷ ps) (suc i) e = place-joined b ps i e

pub mask-joined : (b l : ℕ) (t : Bundles) → has_link (joined_in b t) l ≡ true → (1 ≤ l) × (bundle_at l t ≡ Some b)
mask-joined b l t e =
    let set = joined_in b t in
    let least = and_parts (nat_le 1 l) (nat_le l 16 && (bit_at set (l - 1) == 1)) e in
    let most = and_parts (nat_le l 16) (bit_at set (l - 1) == 1) least.1 in
    let low : 1 ≤ l = grind (arith, nat_tests, least.0) in
    let there : bit_at (joined_in b t) (l - 1) ≡ 1 = grind (arith, nat_tests, most.1) in
    (low, place-joined b t.places (l - 1) (mask-at _ (l - 1) there))

-- a link that is joined is one of the table
joined-within : (ps : List (Option Member)) (i b : ℕ) → option_map (λ (m : Member). m.bundle) (get_or ps i None) ≡ Some b → i < length ps
joined-within [] i b e = absurd (cc)
joined-within (p ∷ ps) zero b e = omega arith
joined-within (p ∷ ps) (suc i) b e = omega (arith, joined-within ps i b e)

pub joined-few : (b l : ℕ) (t : Bundles) → 1 ≤ l → bundle_at l t ≡ Some b → l ≤ length t.places
joined-few b l t low is = omega (arith, joined-within t.places (l - 1) b is)
