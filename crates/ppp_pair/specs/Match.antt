-- That an Identifier of 8 bits tells the requests apart.
use Rattle.std.specs.Prelude.{◌≡◌, ◌≤◌, ℕ, ◌+◌, ◌%◌, true, List, Some}
use Rattle.ppp_pair.specs.Pair.{End, Event, Response, Side, Waiting, after, is_coming}
use Rattle.ppp_pair.specs.Response.{ResponseCode, ResponseType, response_type}

-- A response is under way to an end whose request waits, no more than 255 Identifiers were drawn since its own request, and the
-- two have the same Identifier.
pub record Matches (e : End) (w : Waiting) (n : ℕ) (t : ResponseType) (code : ResponseCode)
    : Type 0 where
  pub waits : e.waiting ≡ Some w
  pub coming : is_coming (Response n t code) e ≡ true
  pub span : e.drawn ≤ n + 255
  pub same : n % 256 ≡ w.ordinal % 256

-- it is one to the request that waits
pub record IsToWaiting (w : Waiting) (n : ℕ) (t : ResponseType) : Type 0 where
  pub ordinal : n ≡ w.ordinal
  pub type : t ≡ response_type w.what

-- whatever happens, and at both ends
abbrev pub Matching : Type 0
Matching = (events : List Event) (side : Side) (w : Waiting) (n : ℕ) (t : ResponseType)
    (code : ResponseCode) → Matches (after events side).a w n t code → IsToWaiting w n t
