-- The requests of an end that wait for their responses: at most one of each bundle.
use Rattle.std.specs.Prelude.{◌≡◌, ◌<◌, ◌≤◌, ℕ, ◌+◌, ◌%◌, Bool, false, true, ◌&&◌, ◌==◌, is_some, List, length, ⊤, Option, Some, None, replicate, slice_index_or, slice_set}
use Rattle.std.specs.Option.{option_map}
use Rattle.ppp_bap.specs.declared.bap_ask.BapAsk.{BapAsk}
use Rattle.ppp_bap.specs.declared.bap_ask.BapAsk.TheVariants as ask
use Rattle.ppp_bap.specs.LinkSet.{IsLink}
use Rattle.ppp_bap.specs.declared.bap_packet.Request.{Request}
use Rattle.ppp_bap.specs.declared.bap_packet.Request.TheVariants as asked
use Rattle.ppp_bap.specs.declared.bap_packet.Response.{Response}
use Rattle.ppp_bap.specs.declared.bap_packet.Response.TheVariants as answered
use Rattle.ppp_bap.specs.declared.wait.Wait.{Wait}
use Rattle.ppp_bap.specs.declared.bap.TheConstants.{BUNDLES}

-- the Identifier of the next packet of this end, and bundle by bundle the request that waits
pub record Requests : Type 0 where
  pub next_id : ℕ
  pub waits : List (Option Wait)

-- Identifiers begin at 1.
abbrev pub requests_begun : Requests
requests_begun = record { next_id = 1; waits = replicate BUNDLES None }

abbrev pub wait_of : ℕ → Requests → Option Wait
wait_of b q = slice_index_or q.waits b None

abbrev pub is_waiting : ℕ → Requests → Bool
is_waiting b q = is_some (wait_of b q)

-- what the request that waits asks
abbrev pub asked_of : ℕ → Requests → Option BapAsk
asked_of b q = option_map (λ w. w.ask) (wait_of b q)

abbrev pub with_wait : ℕ → Option Wait → Requests → Requests
with_wait b w q = record q { waits = slice_set q.waits b w }

-- nothing of the bundle waits
abbrev pub wait_ended : ℕ → Requests → Requests
wait_ended b q = with_wait b None q

-- an Identifier was drawn
abbrev pub drawn : Requests → Requests
drawn q = record q { next_id = (q.next_id + 1) % 256 }

-- a request of a bundle was sent for the first time, and waits
abbrev pub first_sent : ℕ → BapAsk → Request → Requests → Requests
first_sent b what request q = drawn (with_wait b (Some (record { id = q.next_id; ask = what; request = request; sent = 1 })) q)

-- whether a response is of the request's Type
abbrev pub is_of_type : BapAsk → Response → Bool
is_of_type ask.Call (answered.Call code link) = true
is_of_type ask.Callback (answered.Callback code) = true
is_of_type (ask.Drop l) (answered.Drop code) = true
is_of_type what response = false

-- and of its Identifier too
abbrev pub is_response_to : Wait → ℕ → Response → Bool
is_response_to w id response = (w.id == id) && is_of_type w.ask response

-- whether it asks to drop that link
abbrev pub is_drop_of : ℕ → Option BapAsk → Bool
is_drop_of l None = false
is_drop_of l (Some ask.Call) = false
is_drop_of l (Some ask.Callback) = false
is_drop_of l (Some (ask.Drop m)) = m == l

-- ---- what is always so

-- the link to drop is a link's number
abbrev pub IsOfLink : BapAsk → Type 0
IsOfLink ask.Call = ⊤
IsOfLink ask.Callback = ⊤
IsOfLink (ask.Drop l) = IsLink l

-- what is sent is what is asked
abbrev pub is_request_of : BapAsk → Request → Bool
is_request_of ask.Call (asked.Call offer) = true
is_request_of ask.Callback (asked.Callback offer link) = true
is_request_of (ask.Drop l) (asked.Drop number) = true
is_request_of what request = false

-- a request that waits has an Identifier, was sent one to three times, and asks what is sent
pub record IsWait (w : Wait) : Type 0 where
  pub id : w.id < 256
  pub link : IsOfLink w.ask
  pub least : 1 ≤ w.sent
  pub most : w.sent ≤ 3
  pub alike : is_request_of w.ask w.request ≡ true

pub record AreRequests (q : Requests) : Type 0 where
  pub next : q.next_id < 256
  pub places : length q.waits ≡ BUNDLES
  pub waits : (b : ℕ) (w : Wait) → wait_of b q ≡ Some w → IsWait w
