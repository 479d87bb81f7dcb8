-- What an end did.
use Rattle.std.proofs.Common.{◌≡◌, ◌<◌, ◌⊎◌, ℕ, zero, suc, List, [], ◌∷◌, ◌++◌, length, get_or, Contains, inl, inr, ⊎_elim, refl, sym, subst, arith}
use Rattle.std.proofs.lemmas.List.Elements.{Contains-append_right}
use Rattle.ppp_pair.specs.Crossing.{HasGranted, HasTaken, IsBefore}
use Rattle.ppp_pair.specs.Pair.{Asked, Deed, Granted, Key, Took}
use Rattle.ppp_pair.specs.Response.{ResponseCode}

-- ---- what stands in a list

pub has_here : {X : Type 0} (x : X) (xs : List X) → Contains (x ∷ xs) x
has_here x xs = (0, omega arith, refl)

pub has_more : {X : Type 0} (y : X) (xs : List X) (x : X) → Contains xs x → Contains (y ∷ xs) x
has_more y xs x h = Contains-append_right (y ∷ []) xs x h

pub has_by : {X : Type 0} (y : X) (xs : List X) (x : X) (k : ℕ) → k < length (y ∷ xs) → get_or (y ∷ xs) k x ≡ x → (y ≡ x) ⊎ Contains xs x
has_by y xs x zero lt e = inl e
has_by y xs x (suc k) lt e = inr (k, omega arith, e)

pub has_cases : {X : Type 0} (y : X) (xs : List X) (x : X) → Contains (y ∷ xs) x → (y ≡ x) ⊎ Contains xs x
has_cases y xs x h = has_by y xs x h.0 h.1 h.2

-- a deed of another kind was one of the past
pub has_other : (d : Deed) (past : List Deed) (e : Deed) → ¬ (d ≡ e) → Contains (d ∷ past) e → Contains past e
has_other d past e not h = ⊎_elim (λ same. absurd (not same)) (λ k. k) (has_cases d past e h)

-- ---- what came before what

pub before_cases : (p q : Key) (d : Deed) (past : List Deed) → IsBefore p q (d ∷ past) → ((d ≡ Asked p) × ¬ (HasTaken q past)) ⊎ IsBefore p q past
before_cases p q d past h = by h.since h.sent where
  by : (since : List Deed) → d ∷ past ≡ since ++ Asked p ∷ h.before → ((d ≡ Asked p) × ¬ (HasTaken q past)) ⊎ IsBefore p q past
  by [] e = let same : past ≡ h.before = cc in inl (cc, λ t. h.untaken (subst (λ x. HasTaken q x) same t))
  by (x ∷ since) e = inr (record { since = since; before = h.before; sent = cc; untaken = h.untaken })

-- a deed that isn't of asking changes nothing
pub before_other : (p q : Key) (d : Deed) (past : List Deed) → ¬ (d ≡ Asked p) → IsBefore p q (d ∷ past) → IsBefore p q past
before_other p q d past not h = ⊎_elim (λ k. absurd (not k.0)) (λ k. k) (before_cases p q d past h)

pub before_asked : (p q : Key) (past : List Deed) → IsBefore p q past → Contains past (Asked p)
before_asked p q past h =
    subst (λ x. Contains x (Asked p)) (sym h.sent) (Contains-append_right h.since (Asked p ∷ h.before) (Asked p) (has_here (Asked p) h.before))

-- ---- no two that cross are both granted

abbrev pub AreFree : List Deed → List Deed → Type 0
AreFree xs ys = (p q : Key) → IsBefore p q xs → IsBefore q p ys → HasGranted p xs → HasGranted q ys → ⊥

pub free_turned : (xs ys : List Deed) → AreFree xs ys → AreFree ys xs
free_turned xs ys h p q before other granted grant = h q p other before grant granted

-- a new request was never granted
pub free_asked : (k : Key) (xs ys : List Deed) → ¬ (HasGranted k xs) → AreFree xs ys → AreFree (Asked k ∷ xs) ys
free_asked k xs ys new h p q before other granted grant =
    let was = has_other (Asked k) xs (Granted p) (λ e. cc) granted in
    ⊎_elim (λ now. new (let same : p ≡ k = asked_same now.0 in subst (λ x. HasGranted x xs) same was)) (λ old. h p q old other was grant)
    (before_cases p q (Asked k) xs before) where
      asked_same : Asked k ≡ Asked p → p ≡ k
      asked_same e = cc

pub free_took : (k : Key) (code : ResponseCode) (xs ys : List Deed) → AreFree xs ys → AreFree (Took k code ∷ xs) ys
free_took k code xs ys h p q before other granted grant =
    h p q (before_other p q (Took k code) xs (λ e. cc) before) other (has_other (Took k code) xs (Granted p) (λ e. cc) granted) grant

-- one is granted that crosses none of the granted ones
pub free_granted : (k : Key) (xs ys : List Deed) → ((q : Key) → IsBefore k q xs → HasGranted q ys → ⊥) → AreFree xs ys → AreFree (Granted k ∷ xs) ys
free_granted k xs ys new h p q before other granted grant =
    let was = before_other p q (Granted k) xs (λ e. cc) before in
    ⊎_elim (λ now. let same : p ≡ k = granted_same now in new q (subst (λ x. IsBefore x q xs) same was) grant) (λ old. h p q was other old grant)
    (has_cases (Granted k) xs (Granted p) granted) where
      granted_same : Granted k ≡ Granted p → p ≡ k
      granted_same e = cc

pub has_none : {X : Type 0} (x : X) → Contains [] x → ⊥
has_none x h = omega (arith, h.1)
