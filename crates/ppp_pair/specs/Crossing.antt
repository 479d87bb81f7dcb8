-- Requests that cross, and that no two of them are both granted.
use Rattle.std.specs.Prelude.{◌≡◌, List, ◌∷◌, ◌++◌, Contains}
use Rattle.ppp_pair.specs.Pair.{Asked, Deed, Event, Granted, Key, Pair, Took, run, start}
use Rattle.ppp_pair.specs.Response.{ResponseCode}

-- Its sender took the Request-Ack of it while it waited.
abbrev pub HasGranted : Key → List Deed → Type 0
HasGranted k past = Contains past (Granted k)

-- some copy of it was taken
pub record HasTaken (k : Key) (past : List Deed) : Type 0 where
  pub code : ResponseCode
  pub took : Contains past (Took k code)

-- An end first sent its request `p` before it took any copy of the other end's request `q`.
pub record IsBefore (p q : Key) (past : List Deed) : Type 0 where
  pub since : List Deed
  pub before : List Deed
  pub sent : past ≡ since ++ Asked p ∷ before
  pub untaken : ¬ (HasTaken q before)

-- Two requests of the two ends cross where each was first sent before its end took any copy of the other.
pub record IsCrossing (p q : Key) (s : Pair) : Type 0 where
  pub of_a : IsBefore p q s.a.past
  pub of_b : IsBefore q p s.b.past

-- no two that cross are both granted
abbrev pub NoCrossing : Pair → Type 0
NoCrossing s = (p q : Key) → IsCrossing p q s → HasGranted p s.a.past → HasGranted q s.b.past → ⊥

-- whatever happens
abbrev pub Crossing : Type 0
Crossing = (events : List Event) → NoCrossing (run events start)
