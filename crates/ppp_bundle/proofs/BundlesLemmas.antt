-- What is always so of an end's bundles stays so.
use Rattle.std.proofs.Common.{◌≡◌, ◌≢◌, ℕ, zero, suc, ◌+◌, ◌-◌, ◌<◌, ◌≤◌, ◌⊎◌, inl, inr, Bool, true, false, not, ◌&&◌, cond, List, [], ◌∷◌, length, map, set, get_or, refl, ap, sym, ◌∙◌, subst, arith}
use Rattle.std.specs.Prelude.{Option, Some, None, nat_le, IfSome}
use Rattle.std.specs.Option.{option_map, option_or}
use Rattle.std.proofs.lemmas.Bool.Decides.{nat_tests}
use Rattle.std.proofs.lemmas.List.{length-set, length-replicate}
use Rattle.std.proofs.lemmas.Option.{same_Some}
use Rattle.ppp_bundle.specs.BundleTable.{AreMates, IsBundleOf, IsBundles, IsLimits, IsMemberOf}
use Rattle.ppp_bundle.specs.Bundles.{Bundles, Member, Peer, bundle_at, bundles_begun, first_some, has_link, is_known, left, marked_at, member_at, peer_of, renumbered, with_mark, with_numbers}
use Rattle.ppp_bundle.specs.JoinKey.{Key, are_like, is_of_one_end, is_same_disc, lacks_disc, lacks_mrru, may_join}
use Rattle.ppp_bundle.specs.Joining.{begin_at, free_bundle, free_from, is_full_for, join_answer, join_to, joined_as, joined_by, joined_to, member_with, with_member, with_peer}
use Rattle.ppp_bundle.specs.declared.limits.Limits.{Limits}
use Rattle.ppp_bundle.specs.declared.limits.TheConstants.{CLASSES}
use Rattle.ppp_bundle.specs.declared.join.Join.{Join}
use Rattle.ppp_bundle.specs.declared.join.SingleWhy.{SingleWhy}
use Rattle.ppp_bundle.specs.declared.join.Join.TheVariants.{First, Added, Single}
use Rattle.ppp_bundle.specs.declared.join.SingleWhy.TheVariants.{NoMrru, NoDisc, SameDisc, Unlike, PeersFull}
use Rattle.ppp_bundle.proofs.KeyLemmas.{disc-other, disc-same, like-self, like-third, may-join}
use Rattle.ppp_bundle.proofs.ControlLemmas.{joined-linked, map-some}
use Rattle.ppp_bundle.proofs.ListLemmas.{by-either, none-anywhere, set-cases}
use Rattle.ppp_bundle.proofs.PeerLemmas.{ArePeers, now-known, remembered-kept, renumbered-is, renumbered-kept, still-known}

-- ---- a new table

no-member : (n : Limits) (l : ℕ) (m : Member) → member_at l (bundles_begun n) ≡ Some m → ⊥
no-member n l m is = let none = none-anywhere {A = Member} n.links (l - 1) in absurd (cc)

pub sound-begun : (n : Limits) → IsLimits n → IsBundles (bundles_begun n)
sound-begun n fit = record {
  limits = fit;
  places = length-replicate n.links None;
  members = λ l m is. absurd (no-member n l m is);
  mates = λ i j m o is other. absurd (no-member n i m is);
  few = omega arith;
  once = tt;
  numbers = tt;
}

-- ---- places whose links were joined before

-- a member comes from one with the same bundle and key
record ComesFrom (ps : List (Option Member)) (i : ℕ) (m : Member) : Type 0 where
  pub before : Member
  pub at : get_or ps i None ≡ Some before
  pub bundle : before.bundle ≡ m.bundle
  pub key : before.key ≡ m.key

member-from : (t : Bundles) (ps : List (Option Member)) (o m : Member) → o.bundle ≡ m.bundle → o.key ≡ m.key → IsMemberOf t o → IsMemberOf (record t { places = ps }) m
member-from t ps o m bundle key h = record {
  within = subst (λ b. b < t.limits.bundles) bundle h.within;
  may = subst (λ (k : Key). may_join k ≡ true) key h.may;
  known = subst (λ (k : Key). is_known k.peer.disc t.peers ≡ true) key h.known;
}

mates-from : (o p m n : Member) → o.bundle ≡ m.bundle → o.key ≡ m.key → p.bundle ≡ n.bundle → p.key ≡ n.key → AreMates o p → AreMates m n
mates-from o p m n ob ok pb pk h =
    let od : o.key.peer.disc ≡ m.key.peer.disc = ap (λ (k : Key). k.peer.disc) ok in
    let pd : p.key.peer.disc ≡ n.key.peer.disc = ap (λ (k : Key). k.peer.disc) pk in
    record {
      together = ((λ e. sym od ∙ (h.together.0 (ob ∙ (e ∙ sym pb)) ∙ pd)), (λ e. sym ob ∙ (h.together.1 (od ∙ (e ∙ sym pd)) ∙ pb)));
      alike = λ e. subst (λ (k : Key). are_like k n.key ≡ true) ok (subst (λ (k : Key). are_like o.key k ≡ true) pk (h.alike (ob ∙ (e ∙ sym pb))));
    }

sound-places : (t : Bundles) (ps : List (Option Member)) → IsBundles t → length ps ≡ length t.places →
    ((i : ℕ) (m : Member) → get_or ps i None ≡ Some m → ComesFrom t.places i m) → IsBundles (record t { places = ps })
sound-places t ps h size comes = record {
  limits = h.limits;
  places = size ∙ h.places;
  members = λ l m is. let from = comes (l - 1) m is in member-from t ps from.before m from.bundle from.key (h.members l from.before from.at);
  mates = λ i j m n is other.
      let one = comes (i - 1) m is in
      let two = comes (j - 1) n other in
      mates-from one.before two.before m n one.bundle one.key two.bundle two.key (h.mates i j one.before two.before one.at two.at);
  few = h.few;
  once = h.once;
  numbers = h.numbers;
}

left-comes : (l i : ℕ) (t : Bundles) (m : Member) → get_or (set t.places (l - 1) None) i None ≡ Some m → ComesFrom t.places i m
left-comes l i t m is =
    by-either (set-cases t.places (l - 1) i None)
    (λ own. absurd (let none : get_or (set t.places (l - 1) None) i None ≡ None = own.1 in cc))
    (λ other. record { before = m; at = sym other ∙ is; bundle = refl; key = refl })

pub sound-left : (l : ℕ) (t : Bundles) → IsBundles t → IsBundles (left l t)
sound-left l t h = sound-places t (set t.places (l - 1) None) h (length-set t.places (l - 1) None) (λ i m is. left-comes l i t m is)

marked-comes : (l i : ℕ) (t : Bundles) (m : Member) → get_or (set t.places (l - 1) (option_map with_mark (member_at l t))) i None ≡ Some m → ComesFrom t.places i m
marked-comes l i t m is =
    by-either (set-cases t.places (l - 1) i (option_map with_mark (member_at l t)))
    (λ own. (let from = map-some with_mark (member_at l t) m (sym own.1 ∙ is) in
    record {
      before = from.0;
      at = ap (λ i. get_or t.places i None) (sym own.0) ∙ from.1;
      bundle = ap (λ (m : Member). m.bundle) from.2;
      key = ap (λ (m : Member). m.key) from.2;
    }))
    (λ other. record { before = m; at = sym other ∙ is; bundle = refl; key = refl })

pub sound-marked : (l : ℕ) (t : Bundles) → IsBundles t → IsBundles (marked_at l t)
sound-marked l t h =
    sound-places t (set t.places (l - 1) (option_map with_mark (member_at l t))) h (length-set t.places (l - 1) (option_map with_mark (member_at l t))) (λ i m is. marked-comes l i t m is)

-- ---- other numbers

peers-of : (t : Bundles) → IsBundles t → ArePeers t.limits.peers t.peers
peers-of t h = record { few = h.few; once = h.once; numbers = h.numbers }

member-peers : (t : Bundles) (ps : List Peer) (m : Member) → ((disc : List ℕ) → is_known disc t.peers ≡ true → is_known disc ps ≡ true) → IsMemberOf t m → IsMemberOf (record t { peers = ps }) m
member-peers t ps m still h = record { within = h.within; may = h.may; known = still m.key.peer.disc h.known }

sound-peers : (t : Bundles) (ps : List Peer) → IsBundles t → ArePeers t.limits.peers ps → ((disc : List ℕ) → is_known disc t.peers ≡ true → is_known disc ps ≡ true) → IsBundles (record t { peers = ps })
sound-peers t ps h all still = record {
  limits = h.limits;
  places = h.places;
  members = λ l m is. member-peers t ps m still (h.members l m is);
  mates = h.mates;
  few = all.few;
  once = all.once;
  numbers = all.numbers;
}

pub sound-numbered : (b : ℕ) (numbers : List ℕ) (t : Bundles) → length numbers ≡ CLASSES → IsBundles t → IsBundles (with_numbers b numbers t)
sound-numbered b numbers t size h =
    sound-peers t (renumbered (peer_of b t) numbers t.peers) h (renumbered-kept t.limits.peers (peer_of b t) numbers t.peers size (peers-of t h))
    (λ disc known. (renumbered-is (peer_of b t) numbers t.peers).known disc ∙ known)

-- ---- a link that joins

newcomer : ℕ → Key → Member
newcomer b k = record { bundle = b; key = k; marked = false }

mates-self : (m : Member) → AreMates m m
mates-self m = record { together = ((λ e. refl), (λ e. refl)); alike = λ e. like-self m.key }

mates-turned : (m n : Member) → AreMates m n → AreMates n m
mates-turned m n h = record {
  together = ((λ e. sym (h.together.0 (sym e))), (λ e. sym (h.together.1 (sym e))));
  alike = λ e. like-third n.key m.key m.key (h.alike (sym e)) (like-self m.key);
}

put-members : (l b : ℕ) (k : Key) (t : Bundles) → IsBundles t → IsBundleOf t b → may_join k ≡ true → (i : ℕ) (m : Member) →
    get_or (set t.places (l - 1) (Some (record { bundle = b; key = k; marked = false }))) (i - 1) None ≡ Some m → IsMemberOf (with_member l k b t) m
put-members l b k t h within may i m is =
    by-either (set-cases t.places (l - 1) (i - 1) (Some (record { bundle = b; key = k; marked = false })))
    (λ own. (let same : record { bundle = b; key = k; marked = false } ≡ m = same_Some _ m (sym own.1 ∙ is) in
    subst (λ (m : Member). IsMemberOf (with_member l k b t) m) same
    (record { within = within; may = may; known = now-known k.peer.disc t.peers })))
    (λ other. (let old = h.members i m (sym other ∙ is) in
    record { within = old.within; may = old.may; known = still-known m.key.peer.disc k.peer.disc t.peers old.known }))

-- the new member, or an old one
put-is : (l b i : ℕ) (k : Key) (t : Bundles) (m : Member) → get_or (set t.places (l - 1) (Some (record { bundle = b; key = k; marked = false }))) (i - 1) None ≡ Some m →
    (record { bundle = b; key = k; marked = false } ≡ m) ⊎ (member_at i t ≡ Some m)
put-is l b i k t m is =
    by-either (set-cases t.places (l - 1) (i - 1) (Some (record { bundle = b; key = k; marked = false })))
    (λ own. inl (same_Some _ m (sym own.1 ∙ is)))
    (λ other. inr (sym other ∙ is))

put-mates : (b : ℕ) (k : Key) (t : Bundles) → IsBundles t → ((i : ℕ) (n : Member) → member_at i t ≡ Some n → AreMates (record { bundle = b; key = k; marked = false }) n) →
    (i j : ℕ) (m n : Member) → (record { bundle = b; key = k; marked = false } ≡ m) ⊎ (member_at i t ≡ Some m) → (record { bundle = b; key = k; marked = false } ≡ n) ⊎ (member_at j t ≡ Some n) → AreMates m n
put-mates b k t h mates i j m n (inl own) (inl same) = subst (λ (m : Member). AreMates m n) own (subst (λ (n : Member). AreMates (record { bundle = b; key = k; marked = false }) n) same (mates-self _))
put-mates b k t h mates i j m n (inl own) (inr other) = subst (λ (m : Member). AreMates m n) own (mates j n other)
put-mates b k t h mates i j m n (inr one) (inl same) = mates-turned n m (subst (λ (n : Member). AreMates n m) same (mates i m one))
put-mates b k t h mates i j m n (inr one) (inr other) = h.mates i j m n one other

sound-put : (l b : ℕ) (k : Key) (t : Bundles) → IsBundles t → IsBundleOf t b → may_join k ≡ true →
    ((i : ℕ) (n : Member) → member_at i t ≡ Some n → AreMates (record { bundle = b; key = k; marked = false }) n) →
    (is_known k.peer.disc t.peers ≡ false → length t.peers < t.limits.peers) → IsBundles (with_member l k b t)
sound-put l b k t h within may mates room =
    let all = remembered-kept t.limits.peers k.peer.disc t.peers (peers-of t h) room in
    record {
      limits = h.limits;
      places = length-set t.places (l - 1) (Some (record { bundle = b; key = k; marked = false })) ∙ h.places;
      members = put-members l b k t h within may;
      mates = λ i j m n is other. put-mates b k t h mates i j m n (put-is l b i k t m is) (put-is l b j k t n other);
      few = all.few;
      once = all.once;
      numbers = all.numbers;
    }

-- the first member with a peer
record IsWithPeer (disc : List ℕ) (ps : List (Option Member)) (m : Member) : Type 0 where
  pub place : ℕ
  pub at : get_or ps place None ≡ Some m
  pub same : is_same_disc m.key.peer.disc disc ≡ true

with-by : (disc : List ℕ) (n : Member) (ps : List (Option Member)) (m : Member) (b : Bool) → is_same_disc n.key.peer.disc disc ≡ b →
    (first_some (map (with_peer disc) ps) ≡ Some m → IsWithPeer disc ps m) →
    option_or (cond b (Some n) None) (first_some (map (with_peer disc) ps)) ≡ Some m → IsWithPeer disc (Some n ∷ ps) m
with-by disc n ps m true test rest is = record { place = 0; at = is; same = (let e : n ≡ m = same_Some n m is in subst (λ (n : Member). is_same_disc n.key.peer.disc disc ≡ true) e test) }
with-by disc n ps m false test rest is = let later = rest is in record { place = suc later.place; at = later.at; same = later.same }

with-place : (disc : List ℕ) (ps : List (Option Member)) (m : Member) → first_some (map (with_peer disc) ps) ≡ Some m → IsWithPeer disc ps m
with-place disc [] m is = absurd (cc)
with-place disc (None ∷ ps) m is = let later = with-place disc ps m is in record { place = suc later.place; at = later.at; same = later.same }
with-place disc (Some n ∷ ps) m is = with-by disc n ps m (is_same_disc n.key.peer.disc disc) refl (with-place disc ps m) is

without-by : (disc : List ℕ) (n : Member) (ps : List (Option Member)) (b : Bool) → is_same_disc n.key.peer.disc disc ≡ b →
    option_or (cond b (Some n) None) (first_some (map (with_peer disc) ps)) ≡ None → (b ≡ false) × (first_some (map (with_peer disc) ps) ≡ None)
without-by disc n ps true test is = absurd (cc)
without-by disc n ps false test is = (refl, is)

without-place : (disc : List ℕ) (ps : List (Option Member)) (i : ℕ) (n : Member) → first_some (map (with_peer disc) ps) ≡ None → get_or ps i None ≡ Some n → is_same_disc n.key.peer.disc disc ≡ false
without-place disc [] i n none is = absurd (cc)
without-place disc (None ∷ ps) zero n none is = absurd (cc)
without-place disc (None ∷ ps) (suc i) n none is = without-place disc ps i n none is
without-place disc (Some m ∷ ps) zero n none is =
    let e : m ≡ n = same_Some m n is in
    let parts = without-by disc m ps (is_same_disc m.key.peer.disc disc) refl none in
    subst (λ (m : Member). is_same_disc m.key.peer.disc disc ≡ false) e parts.0
without-place disc (Some m ∷ ps) (suc i) n none is = without-place disc ps i n (without-by disc m ps (is_same_disc m.key.peer.disc disc) refl none).1 is

-- a link that is added has the peer of those before, and a like key
added-mates : (k : Key) (m n : Member) → m.key.peer.disc ≡ k.peer.disc → are_like m.key k ≡ true → AreMates m n → AreMates (record { bundle = m.bundle; key = k; marked = false }) n
added-mates k m n disc like h = record {
  together = ((λ e. sym disc ∙ h.together.0 e), (λ e. h.together.1 (disc ∙ e)));
  alike = λ e. like-third k m.key n.key like (h.alike e);
}

-- a first link shares neither bundle nor peer
first-mates : (b : ℕ) (k : Key) (n : Member) → b ≢ n.bundle → k.peer.disc ≢ n.key.peer.disc → AreMates (record { bundle = b; key = k; marked = false }) n
first-mates b k n other peer = record { together = ((λ e. absurd (other e)), (λ e. absurd (peer e))); alike = λ e. absurd (other e) }

-- a free bundle
record IsFree (from more b : ℕ) (t : Bundles) : Type 0 where
  pub low : from ≤ b
  pub high : b < from + more
  pub none : has_link b t ≡ false

free-by : (more from b : ℕ) (t : Bundles) (linked : Bool) → has_link from t ≡ linked → (free_from more (from + 1) t ≡ Some b → IsFree (from + 1) more b t) →
    cond linked (free_from more (from + 1) t) (Some from) ≡ Some b → IsFree from (suc more) b t
free-by more from b t true test rest is = let later = rest is in record { low = omega (arith, later.low); high = omega (arith, later.high); none = later.none }
free-by more from b t false test rest is =
    let e : from ≡ b = same_Some from b is in
    record { low = omega (arith, e); high = omega (arith, e); none = subst (λ b. has_link b t ≡ false) e test }

free-is : (more from b : ℕ) (t : Bundles) → free_from more from t ≡ Some b → IsFree from more b t
free-is zero from b t is = absurd (cc)
free-is (suc more) from b t is = free-by more from b t (has_link from t) refl (free-is more (from + 1) b t) is

free-other : (b i : ℕ) (t : Bundles) (n : Member) → has_link b t ≡ false → member_at i t ≡ Some n → b ≢ n.bundle
free-other b i t n none is same =
    let there : bundle_at i t ≡ Some b = ap (option_map (λ (m : Member). m.bundle)) is ∙ ap Some (sym same) in
    let some = joined-linked b i t there in
    absurd (cc)

not-full : (known full : Bool) (limit peers : ℕ) → nat_le limit peers ≡ full → (not known && full) ≡ false → known ≡ false → peers < limit
not-full true full limit peers test h new = absurd (cc)
not-full false true limit peers test h new = absurd (cc)
not-full false false limit peers test h new = grind (arith, nat_tests)

-- what an answer does to the table is sound, and a link that joins has a bundle, and room for its peer
pub record Allows (l : ℕ) (k : Key) (t : Bundles) (answer : Join) : Type 0 where
  pub sound : IsBundles (joined_by answer l k t)
  pub within : (b : ℕ) → joined_to answer ≡ Some b → IsBundleOf t b
  pub room : (b : ℕ) → joined_to answer ≡ Some b → is_known k.peer.disc t.peers ≡ false → length t.peers < t.limits.peers

stays-single : (l : ℕ) (k : Key) (t : Bundles) (why : SingleWhy) → IsBundles t → Allows l k t (Single why)
stays-single l k t why h = record { sound = h; within = λ b is. absurd (cc); room = λ b is. absurd (cc) }

allows-first : (l : ℕ) (k : Key) (t : Bundles) (o : Option ℕ) → free_bundle t ≡ o → IsBundles t → may_join k ≡ true → member_with k.peer.disc t ≡ None →
    (is_known k.peer.disc t.peers ≡ false → length t.peers < t.limits.peers) → Allows l k t (begin_at o t)
allows-first l k t None free h may none room = stays-single l k t _ h
allows-first l k t (Some b) free h may none room =
    let is = free-is t.limits.bundles 0 b t free in
    let within : b < t.limits.bundles = omega (arith, is.high) in
    record {
      sound = sound-put l b k t h within may
          (λ i n at. first-mates b k n (free-other b i t n is.none at)
          (λ same. disc-other n.key.peer.disc k.peer.disc (without-place k.peer.disc t.places (i - 1) n none at) (sym same)))
          room;
      within = λ c same. subst (λ b. b < t.limits.bundles) (same_Some b c same) within;
      room = λ c same. room;
    }

allows-new : (l : ℕ) (k : Key) (t : Bundles) (full : Bool) → is_full_for k.peer.disc t ≡ full → IsBundles t → may_join k ≡ true → member_with k.peer.disc t ≡ None →
    Allows l k t (cond full (Single (PeersFull t.limits.peers)) (begin_at (free_bundle t) t))
allows-new l k t true test h may none = stays-single l k t _ h
allows-new l k t false test h may none =
    allows-first l k t (free_bundle t) refl h may none (not-full (is_known k.peer.disc t.peers) (nat_le t.limits.peers (length t.peers)) t.limits.peers (length t.peers) refl test)

allows-added : (l : ℕ) (k : Key) (t : Bundles) (m : Member) (like : Bool) → are_like m.key k ≡ like → IsBundles t → may_join k ≡ true → member_with k.peer.disc t ≡ Some m →
    Allows l k t (cond like (Added m.bundle) (Single Unlike))
allows-added l k t m false test h may with = stays-single l k t _ h
allows-added l k t m true test h may with =
    let at = with-place k.peer.disc t.places m with in
    let place : suc at.place - 1 ≡ at.place = omega arith in
    let there : member_at (suc at.place) t ≡ Some m = rw place at.at in
    let old = h.members (suc at.place) m there in
    let disc : m.key.peer.disc ≡ k.peer.disc = disc-same m.key.peer.disc k.peer.disc at.same in
    let known : is_known k.peer.disc t.peers ≡ true = ap (λ d. is_known d t.peers) (sym disc) ∙ old.known in
    record {
      sound = sound-put l m.bundle k t h old.within may
          (λ i n other. added-mates k m n disc test (h.mates (suc at.place) i m n there other))
          (λ new. absurd (cc));
      within = λ c same. subst (λ b. b < t.limits.bundles) (same_Some m.bundle c same) old.within;
      room = λ c same new. absurd (cc);
    }

allows-to : (l : ℕ) (k : Key) (t : Bundles) (o : Option Member) → member_with k.peer.disc t ≡ o → IsBundles t → may_join k ≡ true → Allows l k t (join_to o k t)
allows-to l k t None with h may = allows-new l k t (is_full_for k.peer.disc t) refl h may with
allows-to l k t (Some m) with h may = allows-added l k t m (are_like m.key k) refl h may with

allows-by : (l : ℕ) (k : Key) (t : Bundles) (mrru disc ends : Bool) → lacks_mrru k ≡ mrru → lacks_disc k ≡ disc → is_of_one_end k ≡ ends → IsBundles t →
    Allows l k t (cond mrru (Single NoMrru) (cond disc (Single NoDisc) (cond ends (Single SameDisc) (join_to (member_with k.peer.disc t) k t))))
allows-by l k t true disc ends no_mrru no_disc one h = stays-single l k t _ h
allows-by l k t false true ends no_mrru no_disc one h = stays-single l k t _ h
allows-by l k t false false true no_mrru no_disc one h = stays-single l k t _ h
allows-by l k t false false false no_mrru no_disc one h = allows-to l k t (member_with k.peer.disc t) refl h (may-join k no_mrru no_disc one)

pub allows-answer : (l : ℕ) (k : Key) (t : Bundles) → IsBundles t → Allows l k t (join_answer k t)
allows-answer l k t h = allows-by l k t (lacks_mrru k) (lacks_disc k) (is_of_one_end k) refl refl refl h

pub sound-joined : (l : ℕ) (k : Key) (t : Bundles) → IsBundles t → IsBundles (joined_as l k t)
sound-joined l k t h = (allows-answer l k t h).sound

-- a link that joins a bundle is in it
pub joined-with : (answer : Join) (l b : ℕ) (k : Key) (t : Bundles) → joined_to answer ≡ Some b → joined_by answer l k t ≡ with_member l k b t
joined-with (First c) l b k t is = ap (λ b. with_member l k b t) (same_Some c b is)
joined-with (Added c) l b k t is = ap (λ b. with_member l k b t) (same_Some c b is)
joined-with (Single why) l b k t is = absurd (cc)

pub joined-none : (answer : Join) (l : ℕ) (k : Key) (t : Bundles) → joined_to answer ≡ None → joined_by answer l k t ≡ t
joined-none (First c) l k t is = absurd (cc)
joined-none (Added c) l k t is = absurd (cc)
joined-none (Single why) l k t is = refl

-- the bundle of a joined link is one of the table's
pub bundle-within : (l b : ℕ) (t : Bundles) → IsBundles t → bundle_at l t ≡ Some b → IsBundleOf t b
bundle-within l b t h is =
    let from = map-some (λ (m : Member). m.bundle) (member_at l t) b is in
    subst (λ b. b < t.limits.bundles) from.2 (h.members l from.0 from.1).within

-- the bundle that a link joins is one of the table's
pub joins-within : (answer : Join) (l : ℕ) (k : Key) (t : Bundles) → answer ≡ join_answer k t → IsBundles t → IfSome (joined_to answer) (IsBundleOf t)
joins-within answer l k t is h = by (joined_to answer) (ap joined_to is)
  where
    by : (o : Option ℕ) → o ≡ joined_to (join_answer k t) → IfSome o (IsBundleOf t)
    by None same = tt
    by (Some b) same = (allows-answer l k t h).within b (sym same)
