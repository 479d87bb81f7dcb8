-- The places of a net, changed one at a time, as the ports that contracts see.
use Rattle.std.proofs.Common.{◌≡◌, ◌≢◌, ℕ, zero, suc, ◌+◌, ◌<◌, ◌≤◌, Bool, true, false, cond, List, [], ◌∷◌, length, get_or, set, map, refl, sym, ap, subst, ◌∙◌, arith}
use Rattle.std.specs.Prelude.{Some, position, slice_set, replicate, not}
use Rattle.std.specs.List.{prefix_len}
use Rattle.std.proofs.lemmas.List.Elements.{All-set}
use Rattle.std.proofs.Math.ListN.{length-set}
use Rattle.std.proofs.lemmas.List.Quantifiers.{position-Some}
use Rattle.std.specs.List.{SwappedAt}
use Rattle.std.proofs.lemmas.List.{get_or-set_other, map-set, set-set, set_comm, get_or_default, length-map, length-replicate, get_or-replicate}
use Rattle.ppp_wires.specs.Port.{Port, Free, Calls, Joined, Left, is_connected, calls_as}
use Rattle.ppp_wires.specs.Ports.{port_at, connected_ports, caller_of}
use Rattle.ppp_wires.specs.Wires.{is_on}
use Rattle.ppp_wires.specs.Place.{PlaceState}
use Rattle.ppp_wires.specs.PortsState.{PortsState, ports_in, ArePlaces, IsAlike}

pub port-here : (places : List PlaceState) (i : ℕ) (p : PlaceState) → i < length places → p ≡ get_or places i p → port_at (ports_in places) i ≡ p.port
port-here [] i p within is = absurd (omega arith)
port-here (q ∷ places) zero p within is = ap (λ (x : PlaceState). x.port) (sym is)
port-here (q ∷ places) (suc i) p within is = port-here places i p (omega arith) is

-- one place changed is one port changed
pub changed : (s : PortsState) (places : List PlaceState) (room i : ℕ) (p q : PlaceState) (f : Port → Port) → record { ports = ports_in places; room = room } ≡ s → i < length places → p ≡ get_or places i p → q.port ≡ f p.port → record { ports = ports_in (slice_set places i q); room = room } ≡ record s { ports = slice_set s.ports i (f (port_at s.ports i)) }
changed s places room i p q f view within is becomes = rw (← view, port-here places i p within is, ← becomes) (ap (λ (ports : List Port). record { ports = ports; room = room }) (map-set (λ (x : PlaceState). x.port) places i q))

-- two places that were swapped and then written are two places written
pub swapped-set : {X : Type 0} (xs ys : List X) (i j : ℕ) (a b x y : X) → i ≢ j → ys ≡ set (set xs i a) j b → set (set ys i x) j y ≡ set (set xs i x) j y
swapped-set xs ys i j a b x y other is = rw (is, set_comm (set xs i a) j i b x (λ e. other (sym e)), set-set xs i a x, set-set (set xs i x) j b y) refl

-- two alike places that are swapped and then written with alike ones leave all places alike
pub still-places : (xs ys : List PlaceState) (room i j : ℕ) (p q : PlaceState) → ArePlaces xs room → length ys ≡ length xs → ((d : PlaceState) → ys ≡ set (set xs i (get_or xs j d)) j (get_or xs i d)) → i < length xs → j < length xs → IsAlike room p → IsAlike room q → ArePlaces (slice_set (slice_set ys i p) j q) room
still-places xs ys room i j p q are same is in-i in-j alike-p alike-q = record {
  count = simp length-set (same ∙ are.count);
  alike = All-set (IsAlike room) _ j q alike-q (All-set (IsAlike room) _ i p alike-p (rw (is p) (All-set (IsAlike room) _ j _ (are.alike i p in-i) (All-set (IsAlike room) _ i _ (are.alike j p in-j) are.alike))));
}

-- the first place that a test passes is the first port that it passes
prefix-map : {X Y : Type 0} (f : X → Y) (t : Y → Bool) (xs : List X) → prefix_len t (map f xs) ≡ prefix_len (λ x. t (f x)) xs
prefix-map f t [] = refl
prefix-map f t (x ∷ xs) = ap (λ n. cond (t (f x)) (1 + n) 0) (prefix-map f t xs)

pub position-map : {X Y : Type 0} (f : X → Y) (t : Y → Bool) (xs : List X) → position t (map f xs) ≡ position (λ x. t (f x)) xs
position-map f t xs = rw (prefix-map f (λ y. not (t y)) xs, length-map) refl

-- a caller is connected
pub caller-on : (name : List ℕ) (port : Port) → calls_as name port ≡ true → is_connected port ≡ true
caller-on name Free calls = calls
caller-on name (Calls own pushed) calls = refl
caller-on name (Joined other waiting) calls = refl
caller-on name (Left waiting) calls = refl

pub on-here : (ports : List Port) (i : ℕ) → is_on (connected_ports ports) i ≡ is_connected (port_at ports i)
on-here [] i = refl
on-here (p ∷ ports) zero = refl
on-here (p ∷ ports) (suc i) = on-here ports i

ports-replicate : (n : ℕ) (p : PlaceState) → ports_in (replicate n p) ≡ replicate n p.port
ports-replicate zero p = refl
ports-replicate (suc n) p = ap (λ ports. p.port ∷ ports) (ports-replicate n p)

-- free places, one after the other
pub new-places : (n room : ℕ) → (items : List PlaceState) → items ≡ replicate n (record { room = room; port = Free }) → ports_in items ≡ replicate n Free
new-places n room items is = rw is (ports-replicate n _)

pub new-alike : (room : ℕ) → ArePlaces (replicate 33 (record { room = room; port = Free })) room
new-alike room = record {
  count = length-replicate 33 (let p : PlaceState = record { room = room; port = Free } in p);
  alike = λ k d below. rw (get_or-replicate {A = PlaceState} 33 k (record { room = room; port = Free }) d below) (record { room = refl; reach = tt });
}

-- what stands at a caller that is found
pub caller-found : (places : List PlaceState) (name : List ℕ) (i : ℕ) → position (λ (p : PlaceState). calls_as name p.port) places ≡ Some i → (i < length places) × (Some i ≡ caller_of name (ports_in places)) × (is_on (connected_ports (ports_in places)) i ≡ true)
caller-found places name i found =
    let d : PlaceState = record { room = 0; port = Free } in
    let at : (i < length places) × (calls_as name (get_or places i d).port ≡ true) × ((k : ℕ) → k < i → calls_as name (get_or places k d).port ≡ false) = position-Some (λ (p : PlaceState). calls_as name p.port) places i d found in
    let here : port_at (ports_in places) i ≡ (get_or places i d).port = port-here places i (get_or places i d) at.0 (get_or_default places i d _ at.0) in
    (at.0, sym (position-map (λ (p : PlaceState). p.port) (calls_as name) places ∙ found), on-here (ports_in places) i ∙ ap is_connected here ∙ caller-on name _ at.1)

-- places that were swapped, each as it stood at the other number
module _ (xs ys : List PlaceState) (room i j : ℕ) (are : ArePlaces xs room) (swapped : SwappedAt xs ys i j) (other : i ≢ j) (in-i : i ≤ 32) (in-j : j ≤ 32) where
  taker-was : (taker : PlaceState) → taker ≡ get_or ys i taker → taker ≡ get_or xs j taker
  taker-was taker is = is ∙ swapped.0 taker

  pub taker-port : (taker : PlaceState) → taker ≡ get_or ys i taker → taker.port ≡ port_at (ports_in xs) j
  taker-port taker is = let c = are.count in sym (port-here xs j taker (omega arith) (taker-was taker is))

  taker-alike : (taker : PlaceState) → taker ≡ get_or ys i taker → IsAlike room taker
  taker-alike taker is = let c = are.count in subst (IsAlike room) (sym (taker-was taker is)) (are.alike j taker (omega arith))

  taken-alike : (q taken : PlaceState) → taken ≡ get_or (set ys i q) j taken → IsAlike room taken
  taken-alike q taken is = let c = are.count in subst (IsAlike room) (sym (is ∙ get_or-set_other ys i j q taken (λ e. other (sym e)) ∙ swapped.1 taken)) (are.alike i taken (omega arith))

  same-length : length ys ≡ length xs
  same-length = let d : PlaceState = record { room = 0; port = Free } in ap (λ (zs : List PlaceState). length zs) (swapped.3 d) ∙ simp length-set

  pub places-taken : (taker p taken q : PlaceState) (waiting : List ℕ) → taker ≡ get_or ys i taker → p ≡ record { room = taker.room; port = Joined j waiting } → taken ≡ get_or (set ys i p) j taken → q ≡ record { room = taken.room; port = Joined i [] } → ArePlaces (set (set ys i p) j q) room
  places-taken taker p taken q waiting taker-is p-is taken-is q-is =
      let c = are.count in
      let alike-p : IsAlike room p = rw p-is (record { room = (taker-alike taker taker-is).room; reach = in-j }) in
      let alike-q : IsAlike room q = rw q-is (record { room = (taken-alike p taken taken-is).room; reach = in-i }) in
      still-places xs ys room i j p q are same-length swapped.3 (omega arith) (omega arith) alike-p alike-q

  pub ports-taken : (p q : PlaceState) (a b : Port) → p.port ≡ a → q.port ≡ b → ports_in (set (set ys i p) j q) ≡ set (set (ports_in xs) i a) j b
  ports-taken p q a b p-is q-is = let d : PlaceState = record { room = 0; port = Free } in rw (swapped-set xs ys i j (get_or xs j d) (get_or xs i d) p q other (swapped.3 d), ← p-is, ← q-is) (simp map-set)
