-- What a feed writes: the lines of what a station sends and tells, event by event.
use Rattle.std.specs.Prelude.{◌≡◌, ℕ, Bool, zero, suc, ◌+◌, ◌*◌, List, [], ◌∷◌, ◌++◌, length, drop}
use Rattle.ppp_conf.specs.EndConfig.{EndSettings}
use Rattle.ppp_feed.specs.EntryLine.{entry_lines}
use Rattle.ppp_script.specs.declared.feed_event.FeedEvent.{FeedEvent}
use Rattle.ppp_script.specs.declared.feed_event.FeedEvent.TheVariants as event
use Rattle.ppp_bap.specs.declared.call_ask.CallAsk.{CallAsk}
use Rattle.ppp_station.specs.Shipped.{allows_up_to, answered}
use Rattle.ppp_station.specs.Station.{BeginsBy, Station, Stepped, asked_for_octets, hears, moves, tries_again}
use Rattle.ppp_trunk.specs.Steps.{LineUp, LineDown, Opens, Closes, TimesOut}

-- a station after events, and the lines of what it sent and told
pub record Written : Type 0 where
  pub station : Station
  pub text : List ℕ

abbrev pub nothing : Station → Written
nothing st = record { station = st; text = [] }

abbrev pub written_by : Stepped → Written
written_by did = record { station = did.station; text = entry_lines did.out.entries }

abbrev pub and_more : List ℕ → Written → Written
and_more text more = record { station = more.station; text = text ++ more.text }

-- octets come on a link, for what the policy answers
abbrev pub takes_frame : (CallAsk → Bool) → ℕ → List ℕ → Station → ℕ → Stepped
takes_frame says l octets st word = hears (answered says (asked_for_octets l octets st word)) l octets st word

-- They come as events until they are used up, each with those that the one before left, and at most that many.
unfoldable pub takes : (CallAsk → Bool) → ℕ → ℕ → List ℕ → Station → ℕ → Written
takes says most l [] st word = nothing st
takes says zero l (x ∷ xs) st word = nothing st
takes says (suc most) l (x ∷ xs) st word =
    let did = takes_frame says l (x ∷ xs) st word in
    and_more (entry_lines did.out.entries) (takes says most l (drop did.out.used (x ∷ xs)) did.station word)

-- Each event uses an octet at least, so there are no more of them than octets.
abbrev pub takes_all : (CallAsk → Bool) → ℕ → List ℕ → Station → ℕ → Written
takes_all says l octets st word = takes says (length octets) l octets st word

-- a line happens
unfoldable pub line_does : (CallAsk → Bool) → FeedEvent → Station → ℕ → Written
line_does says (event.Up l) st word = written_by (moves LineUp l st word)
line_does says (event.Down l) st word = written_by (moves LineDown l st word)
line_does says (event.AdminOpen l p) st word = written_by (moves (Opens p) l st word)
line_does says (event.AdminClose l p) st word = written_by (moves (Closes p) l st word)
line_does says (event.Timeout l p) st word = written_by (moves (TimesOut p) l st word)
line_does says (event.BapTimeout l) st word = written_by (tries_again l st word)
line_does says (event.Bytes l octets) st word = takes_all says l octets st word

-- the word of the k-th line
abbrev pub word_of : ℕ → ℕ
word_of k = 2 * k

-- what lines write, of which the first is the k-th
unfoldable pub text_from : (CallAsk → Bool) → ℕ → Station → List FeedEvent → List ℕ
text_from says k st [] = []
text_from says k st (e ∷ es) = let did = line_does says e st (word_of k) in did.text ++ text_from says (k + 1) did.station es

-- what all lines write, of a station as it begins
abbrev pub feed_text : (CallAsk → Bool) → Station → List FeedEvent → List ℕ
feed_text says st events = text_from says 1 st events

-- these octets are what a station of these settings writes of these lines, with the policy that comes with the program
pub record IsFeed (s : EndSettings) (events : List FeedEvent) (octets : List ℕ) : Type 0 where
  pub station : Station
  pub begins : BeginsBy s station
  pub text : octets ≡ feed_text (allows_up_to s.max_speed) station events
