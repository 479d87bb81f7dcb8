-- The events of a replay: their bounds, their texts, and the lines that read as them.
use Rattle.std.specs.Prelude.{sum_by, ℕ, ◌≤◌, ⊤, List, [], ◌∷◌, Result, Ok, codes}
use Rattle.std.specs.Fmt.{decimal}
use Rattle.ppp_packet.specs.Proto.{proto_name}
use Rattle.ppp_text.specs.Fields.{fields_of, line_with}
use Rattle.ppp_script.specs.declared.end.End.{End}
use Rattle.ppp_script.specs.declared.event.Event.{Event}
use Rattle.ppp_script.specs.declared.event.Event.TheVariants.{Up, Down, AdminOpen, AdminClose, Timeout, BapTimeout, Deliver, Lose, Settle, Reboot, Call, Callback, Drop, Status, Show}
use Rattle.ppp_script.specs.declared.event.TheConstants.{MOST_PLACE, MOST_SETTLED, MOST_STATUS}
use Rattle.ppp_script.specs.declared.line_why.LineWhy.{LineWhy}
use Rattle.ppp_script.specs.declared.timer.Timer.{Timer}
use Rattle.ppp_script.specs.declared.timer.Timer.TheVariants.{Restart, Bap}
use Rattle.ppp_script.specs.End.{end_name}
use Rattle.ppp_script.specs.Field.{next_field, no_more, number_field, end_in, link_in, last_protocol, IsLink}
use Rattle.ppp_script.specs.Line.{Form}
use Rattle.ppp_script.specs.Results.{◌>>=◌}
use Rattle.ppp_script.specs.Row.{Row, row, read_as, read_by}
use Rattle.ppp_script.specs.Timer.{timer_name, last_timer}

-- the steps of an event: one, but for those of `settle N`
abbrev pub steps_in : Event → ℕ
steps_in (Settle count) = count
steps_in event = 1

-- the steps of events, one behind the other
abbrev pub steps_in_all : List Event → ℕ
steps_in_all events = sum_by steps_in events

-- an event's numbers are within their bounds, where so many links are configured
abbrev pub IsWithin : ℕ → Event → Type 0
IsWithin links (Up end link) = IsLink links link
IsWithin links (Down end link) = IsLink links link
IsWithin links (AdminOpen end link protocol) = IsLink links link
IsWithin links (AdminClose end link protocol) = IsLink links link
IsWithin links (Timeout end link protocol) = IsLink links link
IsWithin links (BapTimeout end link) = IsLink links link
IsWithin links (Deliver end link) = IsLink links link
IsWithin links (Lose end link place) = IsLink links link × ((1 ≤ place) × (place ≤ MOST_PLACE))
IsWithin links (Settle count) = (1 ≤ count) × (count ≤ MOST_SETTLED)
IsWithin links (Reboot end) = ⊤
IsWithin links (Call end link) = IsLink links link
IsWithin links (Callback end link) = IsLink links link
IsWithin links (Drop end link) = IsLink links link
IsWithin links (Status end link status) = IsLink links link × (status ≤ MOST_STATUS)
IsWithin links Show = ⊤

-- the fields of an event's line: `E L` and more of them
abbrev pub place_fields : End → ℕ → List (List ℕ) → List (List ℕ)
place_fields end link more = end_name end ∷ decimal link ∷ more

abbrev pub timeout_fields : End → ℕ → Timer → List (List ℕ)
timeout_fields end link timer = codes "timeout" ∷ place_fields end link (timer_name timer ∷ [])

abbrev pub event_fields : Event → List (List ℕ)
event_fields (Up end link) = codes "up" ∷ place_fields end link []
event_fields (Down end link) = codes "down" ∷ place_fields end link []
event_fields (AdminOpen end link protocol) = codes "open" ∷ place_fields end link (proto_name protocol ∷ [])
event_fields (AdminClose end link protocol) = codes "close" ∷ place_fields end link (proto_name protocol ∷ [])
event_fields (Timeout end link protocol) = timeout_fields end link (Restart protocol)
event_fields (BapTimeout end link) = timeout_fields end link Bap
event_fields (Deliver end link) = codes "deliver" ∷ place_fields end link []
event_fields (Lose end link place) = codes "lose" ∷ place_fields end link (decimal place ∷ [])
event_fields (Settle count) = codes "settle" ∷ decimal count ∷ []
event_fields (Reboot end) = codes "reboot" ∷ end_name end ∷ []
event_fields (Call end link) = codes "call" ∷ place_fields end link []
event_fields (Callback end link) = codes "callback" ∷ place_fields end link []
event_fields (Drop end link) = codes "drop" ∷ place_fields end link []
event_fields (Status end link status) = codes "status" ∷ place_fields end link (decimal status ∷ [])
event_fields Show = codes "show" ∷ []

-- the line of an event, without an end
abbrev pub event_text : Event → List ℕ
event_text event = line_with (event_fields event)

-- Lines are read from left to right: of two deviations the one that stands earlier in the line decides.

-- `E L`, and the fields behind it
unfoldable pub place_in : ℕ → List (List ℕ) → Result (End × ℕ × List (List ℕ)) LineWhy
place_in links fields = do
  first ← next_field fields
  end ← end_in first.0
  second ← next_field first.1
  link ← link_in links second.0
  Ok (end, link, second.1)

-- `E L`, and what is read of the fields behind it
unfoldable pub placed : {X : Type 0} → ℕ → (List (List ℕ) → Result X LineWhy) → List (List ℕ) → Result (End × ℕ × X) LineWhy
placed links last fields = do
  place ← place_in links fields
  x ← last place.2
  Ok (place.0, place.1, x)

-- a number within these bounds, and no more
unfoldable pub last_number : ℕ → ℕ → List (List ℕ) → Result ℕ LineWhy
last_number least most fields = do
  first ← next_field fields
  number ← number_field least most first.0
  nothing ← no_more first.1
  Ok number

-- `E`, and no more
unfoldable pub last_end : List (List ℕ) → Result End LineWhy
last_end fields = do
  first ← next_field fields
  end ← end_in first.0
  nothing ← no_more first.1
  Ok end

-- a timer fires
abbrev pub timeout : End → ℕ → Timer → Event
timeout end link (Restart protocol) = Timeout end link protocol
timeout end link Bap = BapTimeout end link

-- the rows of what an end asks its peer by BAP, and tells it of a call (RFC 2125)
abbrev pub bap_rows : ℕ → List (Row Event)
bap_rows links =
    row (codes "call") (read_as (placed links no_more) (λ p. Call p.0 p.1))
    ∷ row (codes "callback") (read_as (placed links no_more) (λ p. Callback p.0 p.1))
    ∷ row (codes "drop") (read_as (placed links no_more) (λ p. Drop p.0 p.1))
    ∷ row (codes "status") (read_as (placed links (last_number 0 255)) (λ p. Status p.0 p.1 p.2))
    ∷ []

-- the rows by which a line is read
abbrev pub rows : ℕ → List (Row Event)
rows links =
    row (codes "up") (read_as (placed links no_more) (λ p. Up p.0 p.1))
    ∷ row (codes "down") (read_as (placed links no_more) (λ p. Down p.0 p.1))
    ∷ row (codes "open") (read_as (placed links last_protocol) (λ p. AdminOpen p.0 p.1 p.2))
    ∷ row (codes "close") (read_as (placed links last_protocol) (λ p. AdminClose p.0 p.1 p.2))
    ∷ row (codes "timeout") (read_as (placed links last_timer) (λ p. timeout p.0 p.1 p.2))
    ∷ row (codes "deliver") (read_as (placed links no_more) (λ p. Deliver p.0 p.1))
    ∷ row (codes "lose") (read_as (placed links (last_number 1 1024)) (λ p. Lose p.0 p.1 p.2))
    ∷ row (codes "settle") (read_as (last_number 1 1000) Settle)
    ∷ row (codes "reboot") (read_as last_end Reboot)
    ∷ row (codes "show") (read_as no_more (λ nothing. Show))
    ∷ bap_rows links

-- the event of a line that has this first field, and these behind it
unfoldable pub event_in : ℕ → List ℕ → List (List ℕ) → Result Event LineWhy
event_in links word fields = read_by (rows links) word fields

-- the event of a line
unfoldable pub event_of : ℕ → List ℕ → Result Event LineWhy
event_of links line = do
  word ← next_field (fields_of line)
  event_in links word.0 word.1

-- the form of the lines of a replay
abbrev pub event_form : Form Event
event_form = record { read = event_of; steps = steps_in }
