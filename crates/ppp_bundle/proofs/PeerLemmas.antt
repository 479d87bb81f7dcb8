-- The peers that are remembered.
use Rattle.std.proofs.Common.{◌≡◌, ℕ, suc, ◌+◌, ◌<◌, ◌≤◌, Bool, true, false, ◌||◌, cond, List, [], ◌∷◌, ◌++◌, length, set, get_or, refl, ap, sym, ◌∙◌, arith}
use Rattle.std.specs.Prelude.{Some, None, is_some}
use Rattle.std.specs.List.{AllByRecursion, position_from}
use Rattle.std.proofs.lemmas.Option.{same_Some}
use Rattle.std.proofs.Math.ListN.{get_or-map}
use Rattle.std.proofs.lemmas.List.{map-set}
use Rattle.ppp_bundle.specs.BundleTable.{AreOnce, HasNumbers, known_seen, peers_seen}
use Rattle.ppp_bundle.specs.declared.known.Known.{Known}
use Rattle.ppp_bundle.specs.Bundles.{Peer, is_known, is_of, no_numbers, numbers_for, remembered, renumbered}
use Rattle.ppp_bundle.specs.JoinKey.{is_same_disc}
use Rattle.ppp_bundle.specs.declared.limits.TheConstants.{CLASSES}
use Rattle.ppp_bundle.proofs.KeyLemmas.{disc-self, disc-turned}

-- ---- a peer's place

-- what is so of a peer's place, and of a peer without one
pub record IsPlaced (disc : List ℕ) (ps : List Peer) (i : ℕ) : Type 0 where
  pub within : i < length ps
  pub known : is_known disc ps ≡ true
  pub kept : (d : Peer) → numbers_for disc ps ≡ (get_or ps i d).numbers
  pub renews : (numbers : List ℕ) (d : Peer) → renumbered disc numbers ps ≡ set ps i (record (get_or ps i d) { numbers = numbers })

pub record IsNowhere (disc : List ℕ) (ps : List Peer) : Type 0 where
  pub known : is_known disc ps ≡ false
  pub kept : numbers_for disc ps ≡ no_numbers
  pub renews : (numbers : List ℕ) → renumbered disc numbers ps ≡ ps

placed-first : (disc : List ℕ) (p : Peer) (ps : List Peer) → is_of disc p ≡ true → IsPlaced disc (p ∷ ps) 0
placed-first disc p ps h = record {
  within = omega arith;
  known = rw h refl;
  kept = λ d. rw h refl;
  renews = λ numbers d. rw h refl;
}

placed-later : (disc : List ℕ) (p : Peer) (ps : List Peer) (i : ℕ) → is_of disc p ≡ false → IsPlaced disc ps i → IsPlaced disc (p ∷ ps) (suc i)
placed-later disc p ps i h rest = record {
  within = omega (arith, rest.within);
  known = rw h rest.known;
  kept = λ d. rw h (rest.kept d);
  renews = λ numbers d. rw h (ap (λ qs. p ∷ qs) (rest.renews numbers d));
}

pub record IsPlacedFrom (disc : List ℕ) (ps : List Peer) (n r : ℕ) : Type 0 where
  pub place : ℕ
  pub at : r ≡ n + place
  pub placed : IsPlaced disc ps place

placed-by : (disc : List ℕ) (p : Peer) (ps : List Peer) (n r : ℕ) (b : Bool) → is_of disc p ≡ b →
    (position_from (is_of disc) (n + 1) ps ≡ Some r → IsPlacedFrom disc ps (n + 1) r) →
    cond b (Some n) (position_from (is_of disc) (n + 1) ps) ≡ Some r → IsPlacedFrom disc (p ∷ ps) n r
placed-by disc p ps n r true h rest is =
    let e : n ≡ r = same_Some n r is in
    record { place = 0; at = omega (arith, e); placed = placed-first disc p ps h }
placed-by disc p ps n r false h rest is =
    let later = rest is in
    record { place = suc later.place; at = omega (arith, later.at); placed = placed-later disc p ps later.place h later.placed }

placed-from : (disc : List ℕ) (ps : List Peer) (n r : ℕ) → position_from (is_of disc) n ps ≡ Some r → IsPlacedFrom disc ps n r
placed-from disc [] n r is = absurd (cc)
placed-from disc (p ∷ ps) n r is = placed-by disc p ps n r (is_of disc p) refl (placed-from disc ps (n + 1) r) is

pub placed-at : (disc : List ℕ) (ps : List Peer) (r : ℕ) → position_from (is_of disc) 0 ps ≡ Some r → IsPlaced disc ps r
placed-at disc ps r is =
    let from = placed-from disc ps 0 r is in
    let e : r ≡ from.place = omega (arith, from.at) in
    rw e from.placed

nowhere-by : (disc : List ℕ) (p : Peer) (ps : List Peer) (n : ℕ) (b : Bool) → is_of disc p ≡ b →
    (position_from (is_of disc) (n + 1) ps ≡ None → IsNowhere disc ps) →
    cond b (Some n) (position_from (is_of disc) (n + 1) ps) ≡ None → IsNowhere disc (p ∷ ps)
nowhere-by disc p ps n true h rest is = absurd (cc)
nowhere-by disc p ps n false h rest is =
    let later = rest is in
    record { known = rw h later.known; kept = rw h later.kept; renews = λ numbers. rw h (ap (λ qs. p ∷ qs) (later.renews numbers)) }

pub placed-nowhere : (disc : List ℕ) (ps : List Peer) (n : ℕ) → position_from (is_of disc) n ps ≡ None → IsNowhere disc ps
placed-nowhere disc [] n is = record { known = refl; kept = refl; renews = λ numbers. refl }
placed-nowhere disc (p ∷ ps) n is = nowhere-by disc p ps n (is_of disc p) refl (placed-nowhere disc ps (n + 1)) is

position-by : (disc : List ℕ) (p : Peer) (ps : List Peer) (n : ℕ) (b : Bool) → is_some (position_from (is_of disc) (n + 1) ps) ≡ is_known disc ps →
    is_some (cond b (Some n) (position_from (is_of disc) (n + 1) ps)) ≡ (b || is_known disc ps)
position-by disc p ps n true rest = refl
position-by disc p ps n false rest = rest

pub position-known : (disc : List ℕ) (n : ℕ) (ps : List Peer) → is_some (position_from (is_of disc) n ps) ≡ is_known disc ps
position-known disc n [] = refl
position-known disc n (p ∷ ps) = position-by disc p ps n (is_of disc p) (position-known disc (n + 1) ps)

-- the same of the peers as they are kept
pub numbers-kept : (disc : List ℕ) (ps : List Known) (i : ℕ) (d : Known) → position_from (is_of disc) 0 (peers_seen ps) ≡ Some i → (get_or ps i d).numbers ≡ numbers_for disc (peers_seen ps)
numbers-kept disc ps i d is =
    sym ((placed-at disc (peers_seen ps) i is).kept (known_seen d) ∙ ap (λ (p : Peer). p.numbers) (get_or-map known_seen ps i d))

pub numbers-renewed : (disc numbers : List ℕ) (ps : List Known) (i : ℕ) (k : Known) → position_from (is_of disc) 0 (peers_seen ps) ≡ Some i → k ≡ get_or ps i k →
    peers_seen (set ps i (record { disc = k.disc; numbers = numbers })) ≡ renumbered disc numbers (peers_seen ps)
numbers-renewed disc numbers ps i k is there =
    map-set known_seen ps i (record { disc = k.disc; numbers = numbers })
    ∙ (ap (λ (p : Peer). set (peers_seen ps) i (record p { numbers = numbers })) (ap known_seen there ∙ sym (get_or-map known_seen ps i k))
    ∙ sym ((placed-at disc (peers_seen ps) i is).renews numbers (known_seen k)))

-- ---- a peer more

either : (a b : Bool) → (a || b) ≡ false → (a ≡ false) × (b ≡ false)
either true b h = absurd (cc)
either false b h = (refl, h)

known-snoc : (disc : List ℕ) (ps : List Peer) (p : Peer) → is_known disc (ps ++ p ∷ []) ≡ (is_known disc ps || is_of disc p)
known-snoc disc [] p = or-none (is_of disc p)
  where
    or-none : (b : Bool) → (b || false) ≡ (false || b)
    or-none true = refl
    or-none false = refl
known-snoc disc (q ∷ qs) p = or-next (is_of disc q) (is_known disc (qs ++ p ∷ [])) (is_known disc qs) (is_of disc p) (known-snoc disc qs p)
  where
    or-next : (a b c d : Bool) → b ≡ (c || d) → (a || b) ≡ ((a || c) || d)
    or-next true b c d h = refl
    or-next false b c d h = h

once-snoc : (ps : List Peer) (p : Peer) → AreOnce ps → is_known p.disc ps ≡ false → AreOnce (ps ++ p ∷ [])
once-snoc [] p all new = (refl, tt)
once-snoc (q ∷ qs) p all new =
    let parts = either (is_of p.disc q) (is_known p.disc qs) new in
    let other : is_same_disc p.disc q.disc ≡ false = disc-turned q.disc p.disc parts.0 in
    let none : is_known q.disc (qs ++ p ∷ []) ≡ false = known-snoc q.disc qs p ∙ (rw (all.0, other) refl) in
    (none, once-snoc qs p all.1 parts.1)

numbers-snoc : (ps : List Peer) (p : Peer) → AllByRecursion HasNumbers ps → HasNumbers p → AllByRecursion HasNumbers (ps ++ p ∷ [])
numbers-snoc [] p all one = (one, tt)
numbers-snoc (q ∷ qs) p all one = (all.0, numbers-snoc qs p all.1 one)

length-snoc : (ps : List Peer) (p : Peer) → length (ps ++ p ∷ []) ≡ length ps + 1
length-snoc [] p = refl
length-snoc (q ∷ qs) p = let rest = length-snoc qs p in omega (arith, rest)

-- what is so of peers: few, each once, with numbers
pub record ArePeers (limit : ℕ) (ps : List Peer) : Type 0 where
  pub few : length ps ≤ limit
  pub once : AreOnce ps
  pub numbers : AllByRecursion HasNumbers ps

remembered-by : (limit : ℕ) (disc : List ℕ) (ps : List Peer) (known : Bool) → is_known disc ps ≡ known → ArePeers limit ps → (known ≡ false → length ps < limit) →
    ArePeers limit (cond known ps (ps ++ record { disc = disc; numbers = no_numbers } ∷ []))
remembered-by limit disc ps true h held room = held
remembered-by limit disc ps false h held room =
    let less = room refl in
    record {
      few = omega (arith, less, length-snoc ps (record { disc = disc; numbers = no_numbers }));
      once = once-snoc ps (record { disc = disc; numbers = no_numbers }) held.once h;
      numbers = numbers-snoc ps (record { disc = disc; numbers = no_numbers }) held.numbers refl;
    }

pub remembered-kept : (limit : ℕ) (disc : List ℕ) (ps : List Peer) → ArePeers limit ps → (is_known disc ps ≡ false → length ps < limit) → ArePeers limit (remembered disc ps)
remembered-kept limit disc ps held room = remembered-by limit disc ps (is_known disc ps) refl held room

or-true : (a b : Bool) → a ≡ true → (a || b) ≡ true
or-true true b h = refl
or-true false b h = absurd (cc)

or-last : (a b : Bool) → b ≡ true → (a || b) ≡ true
or-last true b h = refl
or-last false b h = h

still-by : (disc new : List ℕ) (ps : List Peer) (b : Bool) → is_known disc ps ≡ true → is_known disc (cond b ps (ps ++ record { disc = new; numbers = no_numbers } ∷ [])) ≡ true
still-by disc new ps true h = h
still-by disc new ps false h = known-snoc disc ps _ ∙ or-true (is_known disc ps) _ h

-- who is remembered stays so
pub still-known : (disc new : List ℕ) (ps : List Peer) → is_known disc ps ≡ true → is_known disc (remembered new ps) ≡ true
still-known disc new ps h = still-by disc new ps (is_known new ps) h

now-by : (disc : List ℕ) (ps : List Peer) (b : Bool) → is_known disc ps ≡ b → is_known disc (cond b ps (ps ++ record { disc = disc; numbers = no_numbers } ∷ [])) ≡ true
now-by disc ps true h = h
now-by disc ps false h = known-snoc disc ps _ ∙ or-last (is_known disc ps) _ (disc-self disc)

pub now-known : (disc : List ℕ) (ps : List Peer) → is_known disc (remembered disc ps) ≡ true
now-known disc ps = now-by disc ps (is_known disc ps) refl

-- ---- other numbers for a peer

-- the list after one of its peers has other numbers
pub record IsRenumbered (old new : List Peer) : Type 0 where
  pub size : length new ≡ length old
  pub known : (disc : List ℕ) → is_known disc new ≡ is_known disc old

renumbered-by : (disc numbers : List ℕ) (p : Peer) (ps : List Peer) (b : Bool) → IsRenumbered ps (renumbered disc numbers ps) →
    IsRenumbered (p ∷ ps) (cond b (record p { numbers = numbers } ∷ ps) (p ∷ renumbered disc numbers ps))
renumbered-by disc numbers p ps true rest = record { size = refl; known = λ other. refl }
renumbered-by disc numbers p ps false rest = record { size = omega (arith, rest.size); known = λ other. ap (λ b. is_of other p || b) (rest.known other) }

pub renumbered-is : (disc numbers : List ℕ) (ps : List Peer) → IsRenumbered ps (renumbered disc numbers ps)
renumbered-is disc numbers [] = record { size = refl; known = λ other. refl }
renumbered-is disc numbers (p ∷ ps) = renumbered-by disc numbers p ps (is_of disc p) (renumbered-is disc numbers ps)

once-by : (disc numbers : List ℕ) (p : Peer) (ps : List Peer) (b : Bool) → AreOnce (p ∷ ps) → AreOnce (renumbered disc numbers ps) →
    AreOnce (cond b (record p { numbers = numbers } ∷ ps) (p ∷ renumbered disc numbers ps))
once-by disc numbers p ps true all rest = all
once-by disc numbers p ps false all rest = ((renumbered-is disc numbers ps).known p.disc ∙ all.0, rest)

once-renumbered : (disc numbers : List ℕ) (ps : List Peer) → AreOnce ps → AreOnce (renumbered disc numbers ps)
once-renumbered disc numbers [] all = tt
once-renumbered disc numbers (p ∷ ps) all = once-by disc numbers p ps (is_of disc p) all (once-renumbered disc numbers ps all.1)

numbers-by : (disc numbers : List ℕ) (p : Peer) (ps : List Peer) (b : Bool) → length numbers ≡ CLASSES → AllByRecursion HasNumbers (p ∷ ps) → AllByRecursion HasNumbers (renumbered disc numbers ps) →
    AllByRecursion HasNumbers (cond b (record p { numbers = numbers } ∷ ps) (p ∷ renumbered disc numbers ps))
numbers-by disc numbers p ps true size all rest = (size, all.1)
numbers-by disc numbers p ps false size all rest = (all.0, rest)

numbers-renumbered : (disc numbers : List ℕ) (ps : List Peer) → length numbers ≡ CLASSES → AllByRecursion HasNumbers ps → AllByRecursion HasNumbers (renumbered disc numbers ps)
numbers-renumbered disc numbers [] size all = tt
numbers-renumbered disc numbers (p ∷ ps) size all = numbers-by disc numbers p ps (is_of disc p) size all (numbers-renumbered disc numbers ps size all.1)

pub renumbered-kept : (limit : ℕ) (disc numbers : List ℕ) (ps : List Peer) → length numbers ≡ CLASSES → ArePeers limit ps → ArePeers limit (renumbered disc numbers ps)
renumbered-kept limit disc numbers ps size held = record {
  few = omega (arith, held.few, (renumbered-is disc numbers ps).size);
  once = once-renumbered disc numbers ps held.once;
  numbers = numbers-renumbered disc numbers ps size held.numbers;
}
