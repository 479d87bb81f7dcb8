-- The events of a feed: their bounds, their texts, and the lines that read as them.
use Rattle.std.specs.Prelude.{ℕ, List, [], ◌∷◌, Result, Ok, codes}
use Rattle.std.specs.Fmt.{decimal}
use Rattle.hex.specs.Hex.{encode_lower}
use Rattle.ppp_packet.specs.Proto.{proto_name}
use Rattle.ppp_text.specs.Fields.{fields_of, line_with}
use Rattle.ppp_script.specs.declared.feed_event.FeedEvent.{FeedEvent}
use Rattle.ppp_script.specs.declared.feed_event.FeedEvent.TheVariants.{Up, Down, AdminOpen, AdminClose, Timeout, BapTimeout, Bytes}
use Rattle.ppp_script.specs.declared.line_why.LineWhy.{LineWhy}
use Rattle.ppp_script.specs.declared.timer.Timer.{Timer}
use Rattle.ppp_script.specs.declared.timer.Timer.TheVariants.{Restart, Bap}
use Rattle.ppp_script.specs.Field.{next_field, next_link, no_more, last_field, last_protocol, IsLink}
use Rattle.ppp_script.specs.Line.{Form}
use Rattle.ppp_script.specs.Octets.{octets_in, IsOctets}
use Rattle.ppp_script.specs.Results.{◌>>=◌}
use Rattle.ppp_script.specs.Row.{Row, row, read_as, read_by}
use Rattle.ppp_script.specs.Timer.{timer_name, last_timer}

-- an event's numbers and octets are within their bounds, where so many links are configured
abbrev pub IsWithin : ℕ → FeedEvent → Type 0
IsWithin links (Up link) = IsLink links link
IsWithin links (Down link) = IsLink links link
IsWithin links (AdminOpen link protocol) = IsLink links link
IsWithin links (AdminClose link protocol) = IsLink links link
IsWithin links (Timeout link protocol) = IsLink links link
IsWithin links (BapTimeout link) = IsLink links link
IsWithin links (Bytes link octets) = IsLink links link × IsOctets octets

-- the fields of an event's line
abbrev pub timeout_fields : ℕ → Timer → List (List ℕ)
timeout_fields link timer = codes "timeout" ∷ decimal link ∷ timer_name timer ∷ []

abbrev pub feed_fields : FeedEvent → List (List ℕ)
feed_fields (Up link) = codes "up" ∷ decimal link ∷ []
feed_fields (Down link) = codes "down" ∷ decimal link ∷ []
feed_fields (AdminOpen link protocol) = codes "open" ∷ decimal link ∷ proto_name protocol ∷ []
feed_fields (AdminClose link protocol) = codes "close" ∷ decimal link ∷ proto_name protocol ∷ []
feed_fields (Timeout link protocol) = timeout_fields link (Restart protocol)
feed_fields (BapTimeout link) = timeout_fields link Bap
feed_fields (Bytes link octets) = codes "bytes" ∷ decimal link ∷ encode_lower octets ∷ []

-- the line of an event, without an end; its hex digits are in lower case
abbrev pub feed_text : FeedEvent → List ℕ
feed_text event = line_with (feed_fields event)

-- `L`, and what is read of the fields behind it
unfoldable pub linked : {X : Type 0} → ℕ → (List (List ℕ) → Result X LineWhy) → List (List ℕ) → Result (ℕ × X) LineWhy
linked links last fields = do
  first ← next_link links fields
  x ← last first.1
  Ok (first.0, x)

-- `HEX`, and no more
unfoldable pub last_octets : List (List ℕ) → Result (List ℕ) LineWhy
last_octets fields = last_field fields >>= octets_in

-- a timer fires
abbrev pub timeout : ℕ → Timer → FeedEvent
timeout link (Restart protocol) = Timeout link protocol
timeout link Bap = BapTimeout link

-- the rows by which a line is read, but for the one with octets
abbrev pub plain_rows : ℕ → List (Row FeedEvent)
plain_rows links =
    row (codes "up") (read_as (linked links no_more) (λ p. Up p.0))
    ∷ row (codes "down") (read_as (linked links no_more) (λ p. Down p.0))
    ∷ row (codes "open") (read_as (linked links last_protocol) (λ p. AdminOpen p.0 p.1))
    ∷ row (codes "close") (read_as (linked links last_protocol) (λ p. AdminClose p.0 p.1))
    ∷ row (codes "timeout") (read_as (linked links last_timer) (λ p. timeout p.0 p.1))
    ∷ []

abbrev pub bytes_row : ℕ → Row FeedEvent
bytes_row links = row (codes "bytes") (read_as (linked links last_octets) (λ p. Bytes p.0 p.1))

-- the event of a line that has this first field, and these behind it
unfoldable pub feed_in : ℕ → List ℕ → List (List ℕ) → Result FeedEvent LineWhy
feed_in links word fields = read_by (bytes_row links ∷ plain_rows links) word fields

-- the event of a line
unfoldable pub feed_of : ℕ → List ℕ → Result FeedEvent LineWhy
feed_of links line = do
  word ← next_field (fields_of line)
  feed_in links word.0 word.1

-- the form of the lines of a feed: each is one step
abbrev pub feed_form : Form FeedEvent
feed_form = record { read = feed_of; steps = λ event. 1 }
