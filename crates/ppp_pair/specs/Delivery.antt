-- The same two ends over links that give each packet once at most: a packet that is taken is no longer under way, and one may be
-- lost. This project's own.
use Rattle.std.specs.Prelude.{◌≡◌, ℕ, true, if◌then◌else◌, List, [], ◌∷◌}
use Rattle.ppp_pair.specs.Close.{Closes, IsKept}
use Rattle.ppp_pair.specs.Crossing.{NoCrossing}
use Rattle.ppp_pair.specs.Pair.{End, Event, Happening, Packet, Pair, Request, Response, Side, TakesRequest, TakesResponse, at_first, is_coming, run, same_packet, seen, start}
use Rattle.ppp_pair.specs.Response.{ResponseCode, ResponseType}

-- the packets without the first that is the same
abbrev pub without_packet : Packet → List Packet → List Packet
without_packet p [] = []
without_packet p (q ∷ qs) = if same_packet p q then qs else q ∷ without_packet p qs

abbrev pub loses : Packet → Pair → Pair
loses p s = record s { a = record s.a { coming = without_packet p s.a.coming } }

-- a packet to the first end is taken, and is under way no longer
abbrev pub takes_once : Packet → Happening → Pair → Pair
takes_once p what s = if is_coming p s.a then loses p (at_first s what) else s

-- an event of the two ends, or the loss of a packet to the end of the side
pub data Passing : Type 0 where
  Happens : (what : Happening) → Passing
  Loses : (packet : Packet) → Passing

pub record Passed : Type 0 where
  pub side : Side
  pub what : Passing

abbrev pub at_first_once : Pair → Happening → Pair
at_first_once s (TakesRequest n what code) =
    takes_once (Request n what) (TakesRequest n what code) s
at_first_once s (TakesResponse n t code) =
    takes_once (Response n t code) (TakesResponse n t code) s
at_first_once s what = at_first s what

abbrev pub passes : Pair → Passing → Pair
passes s (Happens what) = at_first_once s what
passes s (Loses p) = loses p s

abbrev pub passed : Pair → Passed → Pair
passed s e = seen e.side (passes (seen e.side s) e.what)

abbrev pub run_once : List Passed → Pair → Pair
run_once [] s = s
run_once (e ∷ es) s = run_once es (passed s e)

abbrev pub after_once : List Passed → Side → Pair
after_once passings side = seen side (run_once passings start)

-- the same, and no less is under way to the second
pub record IsLike (d e : End) : Type 0 where
  pub joined : d.joined ≡ e.joined
  pub marked : d.marked ≡ e.marked
  pub drawn : d.drawn ≡ e.drawn
  pub waiting : d.waiting ≡ e.waiting
  pub boots : d.boots ≡ e.boots
  pub past : d.past ≡ e.past
  pub barred : d.barred ≡ e.barred
  pub closed : d.closed ≡ e.closed
  pub coming : (p : Packet) → is_coming p d ≡ true → is_coming p e ≡ true

-- there are events of the two ends that lead to the same
pub record HasRun (passings : List Passed) : Type 0 where
  pub events : List Event
  pub of_a : IsLike (run_once passings start).a (run events start).a
  pub of_b : IsLike (run_once passings start).b (run events start).b

abbrev pub Included : Type 0
Included = (passings : List Passed) → HasRun passings

-- Over such links too no two requests that cross are both granted, and no close under a grant takes the last link.
abbrev pub CrossingOnce : Type 0
CrossingOnce = (passings : List Passed) → NoCrossing (run_once passings start)

abbrev pub KeptOnce : Type 0
KeptOnce = (passings : List Passed) (side : Side) (n : ℕ) (t : ResponseType) (code : ResponseCode)
    (l : ℕ) → Closes (after_once passings side) n t code l → IsKept (after_once passings side) l
