-- A table as the code keeps it, after a link joined or left.
use Rattle.std.proofs.Common.{◌≡◌, ◌≢◌, ℕ, zero, suc, ◌+◌, ◌-◌, ◌<◌, ◌≤◌, Bool, true, false, not, List, [], ◌∷◌, length, map, set, get_or, replicate, refl, ap, sym, ◌∙◌, subst, arith}
use Rattle.std.specs.Prelude.{Option, Some, None, is_some}
use Rattle.std.specs.List.{list_any}
use Rattle.std.specs.Option.{option_map}
use Rattle.std.proofs.lemmas.List.{map-set, length-map, length-replicate}
use Rattle.std.proofs.lemmas.Option.{same_Some}
use Rattle.std.proofs.Math.ListN.{get_or-map}
use Rattle.ppp_bundle.specs.BundleTable.{AreControls, IsBundleOf, IsBundles, IsLinkOf, joined_seen, known_seen, peers_seen, place_seen, places_seen}
use Rattle.ppp_bundle.specs.Bundles.{Bundles, Member, Peer, bundle_at, bundles_begun, control_by, control_of, disc_by, first_some, has_link, is_known, is_senior_by, key_at, key_in, keys_in, least_from, left, left_as, marked_at, member_at, peer_of, remembered, with_mark, with_place}
use Rattle.ppp_bundle.specs.JoinKey.{Key, key_seen}
use Rattle.ppp_bundle.specs.Joining.{free_from, join_answer, joined_as, joined_to}
use Rattle.ppp_bundle.specs.declared.join.Join.{Join}
use Rattle.ppp_bundle.specs.declared.known.Known.{Known}
use Rattle.ppp_bundle.proofs.BundlesLemmas.{allows-answer, joined-with}
use Rattle.ppp_bundle.specs.declared.control.Candidate.{Candidate}
use Rattle.ppp_lcp.specs.LcpGrant.{disc_seen}
use Rattle.ppp_bundle.specs.declared.join_key.JoinKey.{JoinKey}
use Rattle.ppp_bundle.specs.declared.joined.Joined.{Joined}
use Rattle.ppp_bundle.specs.declared.limits.Limits.{Limits}
use Rattle.ppp_bundle.proofs.ControlLemmas.{controls-kept, controls-put, key-none, key-other, linked-control}
use Rattle.ppp_bundle.proofs.ListLemmas.{get-any, none-anywhere}

-- the table of these fields
abbrev pub table_of : Limits → List (Option Joined) → List Peer → Bundles
table_of n ps peers = record { limits = n; places = places_seen ps; peers = peers }

-- a place is set
pub seat : (n : Limits) (ps : List (Option Joined)) (peers : List Peer) (l at : ℕ) (p : Option Joined) → at ≡ l →
    table_of n (set ps (at - 1) p) peers ≡ with_place l (place_seen p) (table_of n ps peers)
seat n ps peers l at p same =
    ap (λ a. table_of n (set ps (a - 1) p) peers) same ∙ ap (λ qs. record { limits = n; places = qs; peers = peers }) (map-set place_seen ps (l - 1) p)

-- the control links don't rest on the peers
pub controls-peers : (cs : List (Option ℕ)) (t : Bundles) (peers : List Peer) → AreControls cs t → AreControls cs (record t { peers = peers })
controls-peers cs t peers h = record { size = h.size; each = λ b within. h.each b within }

-- a place is set, and the control link of its bundle found again
pub controls-seat : (n : Limits) (ps slice : List (Option Joined)) (peers new_peers : List Peer) (cs : List (Option ℕ)) (l at b cat : ℕ) (p : Option Joined) (c : Option ℕ) →
    AreControls cs (table_of n ps peers) → b < n.bundles → at ≡ l → cat ≡ b → ((i : ℕ) → i ≢ b → key_in i (place_seen p) ≡ key_at i l (table_of n ps peers)) →
    slice ≡ set ps (at - 1) p → c ≡ control_by (map (key_in b) (places_seen slice)) → AreControls (set cs cat c) (table_of n (set ps (at - 1) p) new_peers)
controls-seat n ps slice peers new_peers cs l at b cat p c held within at_is cat_is others slice_is c_is =
    let e = seat n ps peers l at p at_is in
    let new : c ≡ control_of b (with_place l (place_seen p) (table_of n ps peers)) =
    c_is ∙ (ap (λ s. control_by (map (key_in b) (places_seen s))) slice_is ∙ ap (control_of b) e) in
    let put = controls-put l b c (place_seen p) cs (table_of n ps peers) held within others new in
    let back : AreControls (set cs b c) (table_of n (set ps (at - 1) p) peers) = subst (AreControls (set cs b c)) (sym e) put in
    subst (λ i. AreControls (set cs i c) (table_of n (set ps (at - 1) p) new_peers)) (sym cat_is) (controls-peers (set cs b c) (table_of n (set ps (at - 1) p) peers) new_peers back)

-- ---- control links that are read

pub control-read : (cs : List (Option ℕ)) (t u : Bundles) (b at : ℕ) (r : Option ℕ) → AreControls cs t → t ≡ u → IsBundleOf u b → at ≡ b → r ≡ get_or cs at r → r ≡ control_of b u
control-read cs t u b at r held same within at_is r_is =
    let inside : b < t.limits.bundles = subst (λ (t : Bundles). b < t.limits.bundles) (sym same) within in
    r_is ∙ (ap (λ i. get_or cs i r) at_is ∙ (get-any cs b r None (subst (λ n. b < n) (sym held.size) inside) ∙ (held.each b inside ∙ ap (control_of b) same)))

none-some : {A : Type 0} (o : Option A) → is_some o ≡ true → o ≡ None → ⊥
none-some None h none = absurd (cc)
none-some (Some x) h none = absurd (cc)

-- a bundle with a link has a first key
first-by : {A : Type 0} (xs : List (Option A)) → first_some xs ≡ None → list_any is_some xs ≡ false
first-by [] none = refl
first-by (None ∷ xs) none = first-by xs none
first-by (Some x ∷ xs) none = absurd (cc)

pub linked-first : (b : ℕ) (t : Bundles) → has_link b t ≡ true → first_some (keys_in b t) ≡ None → ⊥
linked-first b t linked none = let e = first-by (keys_in b t) none in absurd (cc)

-- ---- a free bundle is looked for

pub free-here : (limit b : ℕ) (t : Bundles) → b < limit → has_link b t ≡ false → free_from (limit - b) b t ≡ Some b
free-here limit b t less none =
    let e : limit - b ≡ suc (limit - (b + 1)) = omega arith in
    rw (e, none) refl

pub free-next : (limit b : ℕ) (t : Bundles) → b < limit → has_link b t ≡ true → free_from (limit - b) b t ≡ free_from (limit - (b + 1)) (b + 1) t
free-next limit b t less linked =
    let e : limit - b ≡ suc (limit - (b + 1)) = omega arith in
    rw (e, linked) refl

-- whether a bundle has a link is read off its control link
pub linked-read : (cs : List (Option ℕ)) (t u : Bundles) (b at : ℕ) (r : Option ℕ) (none : Bool) → AreControls cs t → t ≡ u → b < t.limits.bundles → at ≡ b → r ≡ get_or cs at r → is_some r ≡ not none →
    has_link b u ≡ not none
linked-read cs t u b at r none held same less at_is r_is test =
    let within : b < u.limits.bundles = subst (λ (t : Bundles). b < t.limits.bundles) same less in
    linked-control b u ∙ (ap is_some (sym (control-read cs t u b at r held same within at_is r_is)) ∙ test)

-- ---- a new table, and one that is reset

map-none : (n : ℕ) → places_seen (replicate n None) ≡ replicate n None
map-none zero = refl
map-none (suc n) = ap (λ ps. None ∷ ps) (map-none n)

keys-none : (b n : ℕ) → map (key_in b) (replicate n None) ≡ replicate n None
keys-none b zero = refl
keys-none b (suc n) = ap (λ ks. None ∷ ks) (keys-none b n)

least-none : (senior : Bool) (l n : ℕ) → least_from senior l (replicate n None) ≡ None
least-none senior l zero = refl
least-none senior l (suc n) = least-none senior (l + 1) n

pub begun-seen : (n : Limits) (ps : List (Option Joined)) (peers : List Peer) → ps ≡ replicate n.links None → peers ≡ [] → table_of n ps peers ≡ bundles_begun n
begun-seen n ps peers none nobody =
    ap (λ qs. table_of n qs peers) none ∙ (ap (λ qs. record { limits = n; places = qs; peers = peers }) (map-none n.links) ∙ ap (λ qs. record { limits = n; places = replicate n.links None; peers = qs }) nobody)

none-begun : (n : Limits) (b : ℕ) → control_of b (bundles_begun n) ≡ None
none-begun n b = ap control_by (keys-none b n.links) ∙ ap (option_map (λ (c : Candidate). c.link)) (least-none (is_senior_by (first_some (replicate n.links None))) 1 n.links)

pub begun-controls : (n : Limits) (cs : List (Option ℕ)) → cs ≡ replicate n.bundles None → AreControls cs (bundles_begun n)
begun-controls n cs none = record {
  size = ap length none ∙ length-replicate n.bundles None;
  each = λ b within. ap (λ cs. get_or cs b None) none ∙ (none-anywhere n.bundles b ∙ sym (none-begun n b));
}

-- ---- a link is marked

place-kept : (n : Limits) (ps : List (Option Joined)) (peers : List Peer) (l : ℕ) (j : Joined) (d : Option Joined) → l - 1 < length ps → get_or ps (l - 1) d ≡ Some j →
    member_at l (table_of n ps peers) ≡ Some (joined_seen j)
place-kept n ps peers l j d less is =
    get_or-map place_seen ps (l - 1) None ∙ ap place_seen (get-any ps (l - 1) None d less ∙ is)

-- the place of a joined link
pub place-read : (n : Limits) (ps : List (Option Joined)) (peers : List Peer) (l at : ℕ) (j : Joined) (r : Option Joined) → at ≡ l → l - 1 < length ps → r ≡ get_or ps (at - 1) r → r ≡ Some j →
    member_at l (table_of n ps peers) ≡ Some (joined_seen j)
place-read n ps peers l at j r at_is less r_is there =
    place-kept n ps peers l j r less (ap (λ a. get_or ps (a - 1) r) (sym at_is) ∙ (sym r_is ∙ there))

mark-is : (l b : ℕ) (t : Bundles) (j : Joined) → member_at l t ≡ Some (joined_seen j) → bundle_at l t ≡ Some b →
    Some (record { bundle = b; key = key_seen j.key; marked = true }) ≡ option_map with_mark (member_at l t)
mark-is l b t j is bundle =
    let same : j.bundle ≡ b = same_Some j.bundle b (sym (ap (option_map (λ (m : Member). m.bundle)) is) ∙ bundle) in
    ap (λ b. Some (record { bundle = b; key = key_seen j.key; marked = true })) (sym same) ∙ ap (option_map with_mark) (sym is)

-- a marked link has its key where it had it
mark-keys : (l i : ℕ) (t : Bundles) → key_in i (option_map with_mark (member_at l t)) ≡ key_at i l t
mark-keys l i t = mark-key i (member_at l t)
  where
    mark-key : (i : ℕ) (p : Option Member) → key_in i (option_map with_mark p) ≡ key_in i p
    mark-key i None = refl
    mark-key i (Some m) = refl

pub record IsMarked (n : Limits) (ps new : List (Option Joined)) (peers : List Peer) (cs : List (Option ℕ)) (l : ℕ) : Type 0 where
  pub seen : table_of n new peers ≡ marked_at l (table_of n ps peers)
  pub controls : AreControls cs (table_of n new peers)

pub marked-is : (n : Limits) (ps : List (Option Joined)) (peers : List Peer) (cs : List (Option ℕ)) (l at b : ℕ) (j : Joined) → at ≡ l →
    AreControls cs (table_of n ps peers) → member_at l (table_of n ps peers) ≡ Some (joined_seen j) → bundle_at l (table_of n ps peers) ≡ Some b →
    IsMarked n ps (set ps (at - 1) (Some (record { bundle = b; key = j.key; marked = true }))) peers cs l
marked-is n ps peers cs l at b j at_is held there bundle =
    let e : table_of n (set ps (at - 1) (Some (record { bundle = b; key = j.key; marked = true }))) peers ≡ marked_at l (table_of n ps peers) =
    seat n ps peers l at (Some (record { bundle = b; key = j.key; marked = true })) at_is ∙ ap (λ p. with_place l p (table_of n ps peers)) (mark-is l b (table_of n ps peers) j there bundle) in
    record {
      seen = e;
      controls = subst (AreControls cs) (sym e) (controls-kept l (option_map with_mark (member_at l (table_of n ps peers))) cs (table_of n ps peers) held (λ i. mark-keys l i (table_of n ps peers)));
    }

-- ---- a link leaves

pub record IsLeft (n : Limits) (ps new : List (Option Joined)) (peers : List Peer) (cs : List (Option ℕ)) (l : ℕ) : Type 0 where
  pub seen : table_of n new peers ≡ left l (table_of n ps peers)
  pub controls : AreControls cs (table_of n new peers)

pub left-is : (n : Limits) (ps slice : List (Option Joined)) (peers : List Peer) (cs : List (Option ℕ)) (l at b cat : ℕ) (c : Option ℕ) → at ≡ l → cat ≡ b → b < n.bundles →
    AreControls cs (table_of n ps peers) → bundle_at l (table_of n ps peers) ≡ Some b → slice ≡ set ps (at - 1) None → c ≡ control_by (map (key_in b) (places_seen slice)) →
    IsLeft n ps (set ps (at - 1) None) peers (set cs cat c) l
left-is n ps slice peers cs l at b cat c at_is cat_is within held bundle slice_is c_is = record {
  seen = seat n ps peers l at None at_is;
  controls = controls-seat n ps slice peers peers cs l at b cat None c held within at_is cat_is (λ i other. sym (key-other b i (member_at l (table_of n ps peers)) other bundle)) slice_is c_is;
}

-- what the link is told
pub left-told : (n : Limits) (ps slice : List (Option Joined)) (peers : List Peer) (l at b : ℕ) (c : Option ℕ) (none : Bool) → at ≡ l →
    bundle_at l (table_of n ps peers) ≡ Some b → slice ≡ set ps (at - 1) None → c ≡ control_by (map (key_in b) (places_seen slice)) → is_some c ≡ not none →
    Some (record { bundle = b; last = none }) ≡ left_as l (table_of n ps peers)
left-told n ps slice peers l at b c none at_is bundle slice_is c_is test =
    let linked : has_link b (left l (table_of n ps peers)) ≡ not none =
    linked-control b (left l (table_of n ps peers))
    ∙ (ap (λ (t : Bundles). is_some (control_of b t)) (sym (seat n ps peers l at None at_is))
    ∙ (ap (λ s. is_some (control_by (map (key_in b) (places_seen s)))) (sym slice_is)
    ∙ (ap is_some (sym c_is) ∙ test))) in
    let last : not (has_link b (left l (table_of n ps peers))) ≡ none = ap not linked ∙ not-not none in
    ap (λ x. Some (record { bundle = b; last = x })) (sym last) ∙ ap (option_map (λ b. record { bundle = b; last = not (has_link b (left l (table_of n ps peers))) })) (sym bundle)
  where
    not-not : (b : Bool) → not (not b) ≡ b
    not-not true = refl
    not-not false = refl

-- ---- the peer of a bundle

pub peer-read : (n : Limits) (ps slice : List (Option Joined)) (peers : List Peer) (b : ℕ) (first : Option JoinKey) (k : JoinKey) → slice ≡ ps →
    option_map key_seen first ≡ first_some (map (key_in b) (places_seen slice)) → first ≡ Some k → peer_of b (table_of n ps peers) ≡ disc_seen k.peer.disc
peer-read n ps slice peers b first k slice_is first_is is =
    ap (λ s. disc_by (first_some (map (key_in b) (places_seen s)))) (sym slice_is)
    ∙ (ap disc_by (sym first_is) ∙ ap (λ o. disc_by (option_map key_seen o)) is)

pub first-read : (n : Limits) (ps slice : List (Option Joined)) (peers : List Peer) (u : Bundles) (b : ℕ) (first : Option JoinKey) → slice ≡ ps →
    option_map key_seen first ≡ first_some (map (key_in b) (places_seen slice)) → first ≡ None → table_of n ps peers ≡ u → has_link b u ≡ true → ⊥
first-read n ps slice peers u b first slice_is first_is none same linked =
    linked-first b (table_of n ps peers) (ap (has_link b) same ∙ linked)
    (ap (λ s. first_some (map (key_in b) (places_seen s))) (sym slice_is) ∙ (sym first_is ∙ ap (option_map key_seen) none))

-- a link has a place
pub link-place : (n : Limits) (ps : List (Option Joined)) (peers : List Peer) (u : Bundles) (l : ℕ) → table_of n ps peers ≡ u → IsBundles (table_of n ps peers) → IsLinkOf u l → l - 1 < length ps
link-place n ps peers u l same h link =
    let own : IsLinkOf (table_of n ps peers) l = subst (λ (t : Bundles). IsLinkOf t l) (sym same) link in
    let size = h.places in
    omega (arith, own.0, own.1, size, length-map ps place_seen)

-- ---- a link joins

pub joined-in : (t u : Bundles) (l b : ℕ) (r : Option ℕ) → t ≡ u → r ≡ bundle_at l u → r ≡ Some b → bundle_at l t ≡ Some b
joined-in t u l b r same r_is is = ap (bundle_at l) same ∙ (sym r_is ∙ is)

pub answer-to : (t u : Bundles) (k : Key) (j : Join) (r o : Option ℕ) → t ≡ u → j ≡ join_answer k u → r ≡ joined_to j → r ≡ o → joined_to (join_answer k t) ≡ o
answer-to t u k j r o same j_is r_is is = ap (λ t. joined_to (join_answer k t)) same ∙ (ap joined_to (sym j_is) ∙ (sym r_is ∙ is))

-- where a peer is new there is room for it
pub room-for : (n : Limits) (ps : List (Option Joined)) (known : List Known) (l b size capacity : ℕ) (k : Key) → IsBundles (table_of n ps (peers_seen known)) →
    joined_to (join_answer k (table_of n ps (peers_seen known))) ≡ Some b → size ≡ length known → n.peers ≤ capacity → is_known k.peer.disc (peers_seen known) ≡ false → size < capacity
room-for n ps known l b size capacity k h joined size_is room new =
    let less = (allows-answer l k (table_of n ps (peers_seen known)) h).room b joined new in
    omega (arith, less, size_is, room, length-map known known_seen)

pub record IsJoined (n : Limits) (ps new : List (Option Joined)) (peers new_peers : List Peer) (cs : List (Option ℕ)) (l : ℕ) (k : Key) : Type 0 where
  pub seen : table_of n new new_peers ≡ joined_as l k (table_of n ps peers)
  pub sound : IsBundles (table_of n new new_peers)
  pub controls : AreControls cs (table_of n new new_peers)

pub joined-is : (n : Limits) (ps slice : List (Option Joined)) (peers new_peers : List Peer) (cs : List (Option ℕ)) (l at b cat : ℕ) (key : JoinKey) (c : Option ℕ) → at ≡ l → cat ≡ b →
    IsBundles (table_of n ps peers) → AreControls cs (table_of n ps peers) → bundle_at l (table_of n ps peers) ≡ None → joined_to (join_answer (key_seen key) (table_of n ps peers)) ≡ Some b →
    new_peers ≡ remembered (disc_seen key.peer.disc) peers → slice ≡ set ps (at - 1) (Some (record { bundle = b; key = key; marked = false })) →
    c ≡ control_by (map (key_in b) (places_seen slice)) →
    IsJoined n ps (set ps (at - 1) (Some (record { bundle = b; key = key; marked = false }))) peers new_peers (set cs cat c) l (key_seen key)
joined-is n ps slice peers new_peers cs l at b cat key c at_is cat_is h held single joined peers_is slice_is c_is =
    let t : Bundles = table_of n ps peers in
    let allowed = allows-answer l (key_seen key) t h in
    let e : table_of n (set ps (at - 1) (Some (record { bundle = b; key = key; marked = false }))) new_peers ≡ joined_as l (key_seen key) t =
    ap (table_of n (set ps (at - 1) (Some (record { bundle = b; key = key; marked = false })))) peers_is
    ∙ (ap (λ (t : Bundles). record t { peers = remembered (disc_seen key.peer.disc) peers }) (seat n ps peers l at (Some (record { bundle = b; key = key; marked = false })) at_is)
    ∙ sym (joined-with (join_answer (key_seen key) t) l b (key_seen key) t joined)) in
    record {
      seen = e;
      sound = subst IsBundles (sym e) allowed.sound;
      controls = controls-seat n ps slice peers new_peers cs l at b cat (Some (record { bundle = b; key = key; marked = false })) c held (allowed.within b joined) at_is cat_is
          (λ i other. key-other b i (Some (record { bundle = b; key = key_seen key; marked = false })) other refl ∙ sym (key-none i (member_at l t) single)) slice_is c_is;
    }
