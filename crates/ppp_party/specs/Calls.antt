-- What is kept of BAP at an end: the requests that wait, and the ordinals of what it sends. No end reads an ordinal: they are
-- there to say what is under way.
use Rattle.std.specs.Prelude.{ℕ, ◌+◌, Bool, true, false, if◌then◌else◌, List, [], ◌∷◌, replicate, slice_index_or, slice_set, Option, Some, None, Result, ⊤}
use Rattle.ppp_bap.specs.Requests.{Requests}
use Rattle.ppp_bap.specs.declared.ask_refused.AskRefused.{AskRefused}
use Rattle.ppp_bap.specs.declared.bap.TheConstants.{BUNDLES}
use Rattle.ppp_trunk.specs.StationOut.{Asked, Dial, Entry, Got, Hang, Push}
use Rattle.ppp_station.specs.Station.{Station}
use Rattle.ppp_station.specs.declared.bap_terms.BapTerms.{BapTerms}

pub record Calls : Type 0 where
  pub requests : Requests
  pub terms : BapTerms
  -- the ordinal of the last packet that the end sent of its own accord: requests and indications are counted by one counter
  pub drawn : ℕ
  -- bundle by bundle that of the request that waits, where one does
  pub ordinals : List ℕ

abbrev pub calls_begun : Station → Calls
calls_begun st = record { requests = st.requests; terms = st.terms; drawn = 0; ordinals = replicate BUNDLES 0 }

-- whether a packet goes out: it comes before what is told
abbrev pub begins_with_frame : List Entry → Bool
begins_with_frame [] = false
begins_with_frame (Push l octets ∷ es) = true
begins_with_frame (Got class protocol octets ∷ es) = false
begins_with_frame (Hang l ∷ es) = false
begins_with_frame (Dial l ∷ es) = false
begins_with_frame (Asked answer ∷ es) = false

-- what is answered to one who asked
abbrev pub answer_in : List Entry → Option (Result ⊤ AskRefused)
answer_in [] = None
answer_in (Asked answer ∷ es) = Some answer
answer_in (Push l octets ∷ es) = answer_in es
answer_in (Got class protocol octets ∷ es) = answer_in es
answer_in (Hang l ∷ es) = answer_in es
answer_in (Dial l ∷ es) = answer_in es

abbrev pub next_drawn : Calls → Calls
next_drawn c = record c { drawn = c.drawn + 1 }

-- where it goes out, the next ordinal is drawn
abbrev pub notes_drawn : List Entry → Calls → Calls
notes_drawn es c = if begins_with_frame es then next_drawn c else c

-- and a bundle's wait keeps it
abbrev pub keeps_drawn : Option ℕ → Calls → Calls
keeps_drawn None c = next_drawn c
keeps_drawn (Some b) c = next_drawn (record c { ordinals = slice_set c.ordinals b (c.drawn + 1) })

abbrev pub notes_ask : Option ℕ → List Entry → Calls → Calls
notes_ask b es c = if begins_with_frame es then keeps_drawn b c else c

-- the ordinal of the request of a bundle that waits
abbrev pub ordinal_if : Option ℕ → Calls → ℕ
ordinal_if None c = 0
ordinal_if (Some b) c = slice_index_or c.ordinals b 0
