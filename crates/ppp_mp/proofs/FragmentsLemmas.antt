-- The packets that fragments make.
use Rattle.std.proofs.Common.{◌≡◌, ℕ, zero, suc, ◌+◌, ◌-◌, ◌≤◌, inl, inr, Bool, true, false, if◌then◌else◌, List, [], ◌∷◌, ◌++◌, length, take, drop, refl, ap, sym, ◌∙◌, arith, append_assoc, append-nil}
use Rattle.std.specs.Prelude.{Some, nat_le, slice_get}
use Rattle.std.proofs.lemmas.List.{take-append-drop}
use Rattle.std.proofs.lemmas.Option.{none-some, same_Some}
use Rattle.ppp_mp.specs.Fragments.{AreSome, Fragment, begun_after, ended, fragments_of, joined, packets, pieces}

-- ---- packets of lists behind one another

-- what has begun after a list of fragments
abbrev pub begun_by : List ℕ → List Fragment → List ℕ
begun_by begun [] = begun
begun_by begun (f ∷ fs) = begun_by (begun_after begun f) fs

pub packets-append : (begun : List ℕ) (fs gs : List Fragment) → packets begun (fs ++ gs) ≡ packets begun fs ++ packets (begun_by begun fs) gs
packets-append begun [] gs = refl
packets-append begun (f ∷ fs) gs =
    ap (λ ps. ended begun f ++ ps) (packets-append (begun_after begun f) fs gs)
    ∙ sym (append_assoc (ended begun f) (packets (begun_after begun f) fs) (packets (begun_by (begun_after begun f) fs) gs))

pub begun_by-append : (begun : List ℕ) (fs gs : List Fragment) → begun_by begun (fs ++ gs) ≡ begun_by (begun_by begun fs) gs
begun_by-append begun [] gs = refl
begun_by-append begun (f ∷ fs) gs = begun_by-append (begun_after begun f) fs gs

-- ---- some of the packets

pub some-behind : (q : List ℕ) (ps qs : List (List ℕ)) → AreSome ps qs → AreSome ps (q ∷ qs)
some-behind q [] qs h = tt
some-behind q (p ∷ ps) qs h = inr h

-- some of these and then some of those are some of both
pub some-both : (ps qs more rest : List (List ℕ)) → AreSome ps qs → AreSome more rest → AreSome (ps ++ more) (qs ++ rest)
some-both [] [] more rest h g = g
some-both [] (q ∷ qs) more rest h g = some-behind q more (qs ++ rest) (some-both [] qs more rest tt g)
some-both (p ∷ ps) [] more rest h g = absurd h
some-both (p ∷ ps) (q ∷ qs) more rest (inl h) g = inl (h.0, some-both ps qs more rest h.1 g)
some-both (p ∷ ps) (q ∷ qs) more rest (inr h) g = inr (some-both (p ∷ ps) qs more rest h g)

pub some-more : (ps qs rest : List (List ℕ)) → AreSome ps qs → AreSome ps (qs ++ rest)
some-more ps qs rest h =
    let both : AreSome (ps ++ []) (qs ++ rest) = some-both ps qs [] rest h tt in rw append-nil at both

-- ---- a packet that is cut

-- a piece more
piece-by : (t begins : Bool) (size : ℕ) (begun octets : List ℕ) (rest : List Fragment) → ((x : List ℕ) → packets x rest ≡ (x ++ drop size octets) ∷ []) →
    packets begun (if t then record { begins = begins; ends = true; payload = octets } ∷ [] else record { begins = begins; ends = false; payload = take size octets } ∷ rest) ≡ joined begun (record { begins = begins; ends = true; payload = octets }) ∷ []
piece-by true begins size begun octets rest h = refl
piece-by false true size begun octets rest h = h (take size octets) ∙ ap (λ x. x ∷ []) (take-append-drop size octets)
piece-by false false size begun octets rest h =
    h (begun ++ take size octets)
    ∙ ap (λ x. x ∷ []) (append_assoc begun (take size octets) (drop size octets) ∙ ap (λ x. begun ++ x) (take-append-drop size octets))

pieces-packets : (most size : ℕ) (begins : Bool) (begun octets : List ℕ) → packets begun (pieces most size begins octets) ≡ joined begun (record { begins = begins; ends = true; payload = octets }) ∷ []
pieces-packets zero size begins begun octets = refl
pieces-packets (suc most) size begins begun octets =
    piece-by (nat_le (length octets) size) begins size begun octets (pieces most size false (drop size octets)) (λ x. pieces-packets most size false x (drop size octets))

piece-open : (t begins : Bool) (size : ℕ) (begun octets : List ℕ) (rest : List Fragment) → ((x : List ℕ) → begun_by x rest ≡ []) →
    begun_by begun (if t then record { begins = begins; ends = true; payload = octets } ∷ [] else record { begins = begins; ends = false; payload = take size octets } ∷ rest) ≡ []
piece-open true begins size begun octets rest h = refl
piece-open false begins size begun octets rest h = h (joined begun (record { begins = begins; ends = false; payload = take size octets }))

pieces-open : (most size : ℕ) (begins : Bool) (begun octets : List ℕ) → begun_by begun (pieces most size begins octets) ≡ []
pieces-open zero size begins begun octets = refl
pieces-open (suc most) size begins begun octets =
    piece-open (nat_le (length octets) size) begins size begun octets (pieces most size false (drop size octets)) (λ x. pieces-open most size false x (drop size octets))

-- the fragments of a packet make that packet, whatever has begun before
pub cut-packets : (size : ℕ) (begun packet : List ℕ) → packets begun (fragments_of size packet) ≡ packet ∷ []
cut-packets size begun packet = pieces-packets (length packet) size true begun packet

-- ---- up to a place

-- the packets that end below a place, and what has begun there
abbrev pub done : List Fragment → ℕ → List (List ℕ)
done sent n = packets [] (take n sent)

abbrev pub begun_at : List Fragment → ℕ → List ℕ
begun_at sent n = begun_by [] (take n sent)

take-at : (sent : List Fragment) (n : ℕ) (f : Fragment) → slice_get sent n ≡ Some f → take (suc n) sent ≡ take n sent ++ f ∷ []
take-at [] n f h = absurd (none-some f h)
take-at (x ∷ xs) zero f h = ap (λ y. y ∷ []) (same_Some x f h)
take-at (x ∷ xs) (suc n) f h = ap (λ ys. x ∷ ys) (take-at xs n f h)

pub done-at : (sent : List Fragment) (m n : ℕ) (f : Fragment) → slice_get sent m ≡ Some f → n ≡ suc m → done sent n ≡ done sent m ++ ended (begun_at sent m) f
done-at sent m n f at up =
    ap (done sent) up ∙ ap (packets []) (take-at sent m f at) ∙ packets-append [] (take m sent) (f ∷ [])
    ∙ ap (λ x. done sent m ++ x) (append-nil (ended (begun_at sent m) f))

pub begun-at : (sent : List Fragment) (m n : ℕ) (f : Fragment) → slice_get sent m ≡ Some f → n ≡ suc m → begun_at sent n ≡ begun_after (begun_at sent m) f
begun-at sent m n f at up =
    ap (begun_at sent) up ∙ ap (begun_by []) (take-at sent m f at) ∙ begun_by-append [] (take m sent) (f ∷ [])

take-later : (sent : List Fragment) (m k : ℕ) → take (m + k) sent ≡ take m sent ++ take k (drop m sent)
take-later sent zero k = rw (zero-plus k) refl
  where
    zero-plus : (k : ℕ) → 0 + k ≡ k
    zero-plus k = omega arith
take-later [] (suc m) k = none (suc m + k) k
  where
    none : (i j : ℕ) → take {A = Fragment} i [] ≡ take j []
    none zero zero = refl
    none zero (suc j) = refl
    none (suc i) zero = refl
    none (suc i) (suc j) = refl
take-later (x ∷ xs) (suc m) k =
    let up : suc m + k ≡ suc (m + k) = omega arith in
    ap (λ n. take n (x ∷ xs)) up ∙ ap (λ ys. x ∷ ys) (take-later xs m k)

-- a later place has these packets more
pub more_from : List Fragment → ℕ → ℕ → List (List ℕ)
more_from sent m n = packets (begun_at sent m) (take (n - m) (drop m sent))

pub done-later : (sent : List Fragment) (m n : ℕ) → m ≤ n → done sent n ≡ done sent m ++ more_from sent m n
unfolding more_from
done-later sent m n up =
    let sum : n ≡ m + (n - m) = omega arith in
    ap (done sent) sum ∙ ap (packets []) (take-later sent m (n - m)) ∙ packets-append [] (take m sent) (take (n - m) (drop m sent))

-- what was done of a longer list
pub done-all : (sent : List Fragment) (n : ℕ) (ps : List (List ℕ)) → AreSome ps (done sent n) → AreSome ps (packets [] sent)
done-all sent n ps h =
    let all : packets [] sent ≡ done sent n ++ packets (begun_at sent n) (drop n sent) =
    ap (packets []) (sym (take-append-drop n sent)) ∙ packets-append [] (take n sent) (drop n sent) in
    rw all (some-more ps (done sent n) (packets (begun_at sent n) (drop n sent)) h)

-- ---- by the two bits

module _ (sent : List Fragment) (m n : ℕ) (f : Fragment) (begun : List ℕ) (before : List (List ℕ)) (at : slice_get sent m ≡ Some f) (up : n ≡ suc m) (was : done sent m ≡ before) (has : begun_at sent m ≡ begun) where
  pub last-done : f.begins ≡ false → f.ends ≡ true → done sent n ≡ before ++ (begun ++ f.payload) ∷ []
  last-done b e = done-at sent m n f at up ∙ rw (was, has, e, b) refl

  pub alone-done : f.begins ≡ true → f.ends ≡ true → done sent n ≡ before ++ f.payload ∷ []
  alone-done b e = done-at sent m n f at up ∙ rw (was, e, b) refl

  pub unended-done : f.ends ≡ false → done sent n ≡ before
  unended-done e = done-at sent m n f at up ∙ rw (was, e) (append-nil before)

  pub middle-begun : f.begins ≡ false → f.ends ≡ false → begun_at sent n ≡ begun ++ f.payload
  middle-begun b e = begun-at sent m n f at up ∙ rw (has, e, b) refl

  pub first-begun : f.begins ≡ true → f.ends ≡ false → begun_at sent n ≡ f.payload
  first-begun b e = begun-at sent m n f at up ∙ rw (e, b) refl
