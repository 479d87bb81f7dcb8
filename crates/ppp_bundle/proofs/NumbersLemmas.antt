-- The sending numbers that are kept for the peers.
use Rattle.std.proofs.Common.{◌≡◌, ◌≢◌, ℕ, suc, ◌-◌, Bool, true, false, ◌||◌, cond, List, [], ◌∷◌, ◌++◌, refl, ap, sym, ◌∙◌, arith}
use Rattle.std.specs.Prelude.{Option, Some, None}
use Rattle.ppp_bundle.specs.BundleTable.{IsBundles}
use Rattle.ppp_bundle.specs.Bundles.{Bundles, Peer, disc_by, first_some, has_link, is_known, is_of, keys_in, member_at, no_numbers, numbers_for, numbers_of, peer_of, renumbered, with_numbers}
use Rattle.ppp_bundle.specs.JoinKey.{Key}
use Rattle.ppp_bundle.specs.Joining.{join_answer, joined_as, joined_by}
use Rattle.ppp_bundle.specs.declared.join.Join.{Join}
use Rattle.ppp_bundle.specs.declared.join.Join.TheVariants.{First, Added, Single}
use Rattle.ppp_bundle.proofs.KeyLemmas.{disc-same, not-same}
use Rattle.ppp_bundle.proofs.MirrorLemmas.{first-member}
use Rattle.ppp_bundle.proofs.TableLemmas.{linked-first}

-- ---- a bundle's peer is remembered

known-by : (b : ℕ) (t : Bundles) (o : Option Key) → first_some (keys_in b t) ≡ o → IsBundles t → has_link b t ≡ true → is_known (disc_by o) t.peers ≡ true
known-by b t None first h linked = absurd (linked-first b t linked first)
known-by b t (Some k) first h linked =
    let from = first-member b t.places k first in
    let place : suc from.place - 1 ≡ from.place = omega arith in
    let there : member_at (suc from.place) t ≡ Some from.member = rw place from.at in
    ap (λ (k : Key). is_known k.peer.disc t.peers) (sym from.key) ∙ (h.members (suc from.place) from.member there).known

peer-known : (b : ℕ) (t : Bundles) → IsBundles t → has_link b t ≡ true → is_known (peer_of b t) t.peers ≡ true
peer-known b t h linked = known-by b t (first_some (keys_in b t)) refl h linked

-- ---- other numbers for a peer

kept-by : (disc numbers : List ℕ) (p : Peer) (ps : List Peer) (b : Bool) → is_of disc p ≡ b →
    (is_known disc ps ≡ true → numbers_for disc (renumbered disc numbers ps) ≡ numbers) → (b || is_known disc ps) ≡ true →
    numbers_for disc (cond b (record p { numbers = numbers } ∷ ps) (p ∷ renumbered disc numbers ps)) ≡ numbers
kept-by disc numbers p ps true is rest known = ap (λ b. cond b numbers (numbers_for disc ps)) is
kept-by disc numbers p ps false is rest known = ap (λ b. cond b p.numbers (numbers_for disc (renumbered disc numbers ps))) is ∙ rest known

kept : (disc numbers : List ℕ) (ps : List Peer) → is_known disc ps ≡ true → numbers_for disc (renumbered disc numbers ps) ≡ numbers
kept disc numbers [] known = absurd (cc)
kept disc numbers (p ∷ ps) known = kept-by disc numbers p ps (is_of disc p) refl (kept disc numbers ps) known

pub numbers-kept-last : (b : ℕ) (numbers : List ℕ) (t : Bundles) → IsBundles t → has_link b t ≡ true → numbers_of b (with_numbers b numbers t) ≡ numbers
numbers-kept-last b numbers t h linked = kept (peer_of b t) numbers t.peers (peer-known b t h linked)

others-by : (disc other numbers : List ℕ) (p : Peer) (ps : List Peer) (b : Bool) → is_of disc p ≡ b → other ≢ disc →
    numbers_for other (renumbered disc numbers ps) ≡ numbers_for other ps →
    numbers_for other (cond b (record p { numbers = numbers } ∷ ps) (p ∷ renumbered disc numbers ps)) ≡ numbers_for other (p ∷ ps)
others-by disc other numbers p ps true is unlike rest =
    let no : is_of other p ≡ false = not-same other p.disc (is_of other p) refl (λ e. unlike (e ∙ disc-same p.disc disc is)) in
    ap (λ b. cond b numbers (numbers_for other ps)) no ∙ sym (ap (λ b. cond b p.numbers (numbers_for other ps)) no)
others-by disc other numbers p ps false is unlike rest = ap (λ n. cond (is_of other p) p.numbers n) rest

pub numbers-of-others : (disc other numbers : List ℕ) (ps : List Peer) → other ≢ disc → numbers_for other (renumbered disc numbers ps) ≡ numbers_for other ps
numbers-of-others disc other numbers [] unlike = refl
numbers-of-others disc other numbers (p ∷ ps) unlike = others-by disc other numbers p ps (is_of disc p) refl unlike (numbers-of-others disc other numbers ps unlike)

-- ---- a peer more

none-by : (b : Bool) → cond b no_numbers no_numbers ≡ no_numbers
none-by true = refl
none-by false = refl

numbers-snoc : (disc new : List ℕ) (ps : List Peer) → numbers_for disc (ps ++ record { disc = new; numbers = no_numbers } ∷ []) ≡ numbers_for disc ps
numbers-snoc disc new [] = none-by (is_of disc (record { disc = new; numbers = no_numbers }))
numbers-snoc disc new (p ∷ ps) = ap (λ n. cond (is_of disc p) p.numbers n) (numbers-snoc disc new ps)

remembered-by : (disc new : List ℕ) (ps : List Peer) (b : Bool) → numbers_for disc (cond b ps (ps ++ record { disc = new; numbers = no_numbers } ∷ [])) ≡ numbers_for disc ps
remembered-by disc new ps true = refl
remembered-by disc new ps false = numbers-snoc disc new ps

joined-numbers : (answer : Join) (l : ℕ) (k : Key) (t : Bundles) (disc : List ℕ) → numbers_for disc (joined_by answer l k t).peers ≡ numbers_for disc t.peers
joined-numbers (First b) l k t disc = remembered-by disc k.peer.disc t.peers (is_known k.peer.disc t.peers)
joined-numbers (Added b) l k t disc = remembered-by disc k.peer.disc t.peers (is_known k.peer.disc t.peers)
joined-numbers (Single why) l k t disc = refl

pub numbers-joined : (l : ℕ) (k : Key) (t : Bundles) (disc : List ℕ) → numbers_for disc (joined_as l k t).peers ≡ numbers_for disc t.peers
numbers-joined l k t disc = joined-numbers (join_answer k t) l k t disc
