-- Links that close under a grant, and that none of these is the last.
use Rattle.std.specs.Prelude.{◌≡◌, ◌≢◌, ℕ, true, false, List, Some}
use Rattle.ppp_bap.specs.declared.bap_ask.BapAsk.TheVariants.{Drop}
use Rattle.ppp_pair.specs.Pair.{Event, Pair, Response, Side, TakesResponse, after, at_first, has_staying, is_coming}
use Rattle.ppp_pair.specs.Response.{Ack, DropResponse, ResponseCode, ResponseType}

-- The first end closes a link under a grant: it takes a response, and by that the link leaves.
pub record Closes (s : Pair) (n : ℕ) (t : ResponseType) (code : ResponseCode) (l : ℕ) : Type 0 where
  pub joined : s.a.joined l ≡ true
  pub left : (at_first s (TakesResponse n t code)).a.joined l ≡ false

-- What it takes: the request of that ordinal waits and is to drop the link, the Request-Ack of it is under way, and another
-- joined and unmarked link is there.
pub record IsClosing (s : Pair) (n l : ℕ) : Type 0 where
  pub waits : s.a.waiting ≡ Some (record { ordinal = n; what = Drop l })
  pub granted : is_coming (Response n DropResponse Ack) s.a ≡ true
  pub stays : has_staying l s.a ≡ true

-- Some other link is joined there and unmarked, and the other end hasn't closed it under a grant since this end last joined it.
pub record IsKept (s : Pair) (l : ℕ) : Type 0 where
  pub link : ℕ
  pub other : link ≢ l
  pub joined : s.a.joined link ≡ true
  pub unmarked : s.a.marked link ≡ false
  pub unclosed : s.a.closed link ≡ false

-- whatever happens, and at both ends
abbrev pub Kept : Type 0
Kept = (events : List Event) (side : Side) (n : ℕ) (t : ResponseType) (code : ResponseCode)
    (l : ℕ) → Closes (after events side) n t code l → IsKept (after events side) l

-- A link closes under a grant only so,
abbrev pub ClosesSo : Type 0
ClosesSo = (events : List Event) (side : Side) (n : ℕ) (t : ResponseType) (code : ResponseCode)
    (l : ℕ) → Closes (after events side) n t code l →
    IsClosing (after events side) n l × (t ≡ DropResponse) × (code ≡ Ack)

-- and so it does.
abbrev pub SoCloses : Type 0
SoCloses = (events : List Event) (side : Side) (n l : ℕ) →
    IsClosing (after events side) n l → Closes (after events side) n DropResponse Ack l
