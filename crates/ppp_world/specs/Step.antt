-- What a step of a script does to the two ends of a world and the frames between them. End a is the first of the two.
use Rattle.std.specs.Prelude.{ℕ, zero, suc, ◌+◌, ◌-◌, ◌*◌, nat_le, Bool, ◌&&◌, ⊤, if◌then◌else◌, List, [], ◌∷◌, ◌++◌, length, Option, Some, None, slice_get}
use Rattle.ppp_bap.specs.declared.bap_ask.BapAsk.TheVariants as ask
use Rattle.ppp_bap.specs.declared.call_ask.CallAsk.{CallAsk}
use Rattle.ppp_party.specs.Downs.{AllShortDowns}
use Rattle.ppp_party.specs.Frame.{Frame}
use Rattle.ppp_party.specs.Happening.{happening_seen}
use Rattle.ppp_party.specs.Party.{Ends, Party, asked_in_delivery, asks, delivers, first_busy, happens, loses, reboots, station_of, taken, tells, tries, turned}
use Rattle.ppp_party.specs.declared.happening.Happening.TheVariants as what
use Rattle.ppp_script.specs.declared.end.End.{End}
use Rattle.ppp_script.specs.declared.end.End.TheVariants.{A, B}
use Rattle.ppp_script.specs.declared.event.Event.{Event}
use Rattle.ppp_script.specs.declared.event.Event.TheVariants.{Up, Down, AdminOpen, AdminClose, Timeout, BapTimeout, Deliver, Lose, Settle, Reboot, Call, Callback, Drop, Status, Show}
use Rattle.ppp_station.specs.Station.{IsOfAsk, Station, asks_peer, moves, tells_peer, tries_again}
use Rattle.ppp_trunk.specs.StationOut.{AreShort, Entry}
use Rattle.ppp_trunk.specs.Steps.{LineDown}
use Rattle.ppp_trunk.specs.Trunk.{IsOfLink}
use Rattle.ppp_world.specs.Says.{IfAsked, Says}
use Rattle.ppp_world.specs.declared.step.Step.{Step}
use Rattle.ppp_world.specs.declared.step.Step.TheVariants.{Happens, Delivers, Asks, Tells, Tries, Loses, Reboots, Reports, Rests}

-- ---- what a line of a script is

-- a step on a link; nothing where there is no such link
abbrev pub if_linked : ℕ → ℕ → Step → Step
if_linked links l step = if nat_le 1 l && nat_le l links then step else Rests

-- the step of an event that is one step, in a world of so many links
abbrev pub step_of : ℕ → Event → Step
step_of links (Up e l) = if_linked links l (Happens e l what.LineUp)
step_of links (Down e l) = if_linked links l (Happens e l what.LineDown)
step_of links (AdminOpen e l p) = if_linked links l (Happens e l (what.Opens p))
step_of links (AdminClose e l p) = if_linked links l (Happens e l (what.Closes p))
step_of links (Timeout e l p) = if_linked links l (Happens e l (what.TimesOut p))
step_of links (BapTimeout e l) = if_linked links l (Tries e l)
step_of links (Deliver e l) = if_linked links l (Delivers e l)
step_of links (Lose e l place) = if_linked links l (Loses e l place)
step_of links (Settle count) = Rests
step_of links (Reboot e) = Reboots e
step_of links (Call e l) = if_linked links l (Asks e l ask.Call)
step_of links (Callback e l) = if_linked links l (Asks e l ask.Callback)
step_of links (Drop e l) = if_linked links l (Asks e l (ask.Drop l))
step_of links (Status e l status) = if_linked links l (Tells e l status)
step_of links Show = Reports

-- an event settles by so many deliveries, or is one step
abbrev pub settling : Event → Option ℕ
settling (Settle count) = Some count
settling event = None

-- the next delivery: the front frame of the first queue that isn't empty, of a's links upwards and then of b's
abbrev pub delivery_at : End → Option ℕ → Step → Step
delivery_at at (Some l) otherwise = Delivers at l
delivery_at at None otherwise = otherwise

abbrev pub next_delivery : Ends → Step
next_delivery e = delivery_at A (first_busy 1 e.own.incoming) (delivery_at B (first_busy 1 e.other.incoming) Rests)

-- ---- what it does

-- what one end does to the two, where a is the first
abbrev pub at_end : End → (Ends → Ends) → Ends → Ends
at_end A does e = does e
at_end B does e = turned (does (turned e))

abbrev pub peer_of : End → End
peer_of A = B
peer_of B = A

-- the word of the k-th step at an end
abbrev pub word_of : End → ℕ → ℕ
word_of A k = 2 * k
word_of B k = 2 * k + 1

-- The k-th step, for what the policies answer. All lines that a reboot takes down at the other end have that end's word.
abbrev pub moved : Says → ℕ → Ends → Step → Ends
moved says k e (Happens at l what) = at_end at (happens (happening_seen what) l (word_of at k)) e
moved says k e (Delivers at l) = at_end at (delivers (says at) l (word_of at k)) e
moved says k e (Asks at l what) = at_end at (asks l what (word_of at k)) e
moved says k e (Tells at l status) = at_end at (tells l status (word_of at k)) e
moved says k e (Tries at l) = at_end at (tries l (word_of at k)) e
moved says k e (Loses at l place) = at_end at (loses l place) e
moved says k e (Reboots at) = at_end at (reboots (word_of (peer_of at) k)) e
moved says k e Reports = e
moved says k e Rests = e

-- ---- the entries that the stations make

abbrev pub party_at : End → Ends → Party
party_at A e = e.own
party_at B e = e.other

abbrev pub taken_entries : (CallAsk → Bool) → ℕ → ℕ → Party → Option (List Frame) → List Entry
taken_entries says l word e (Some (f ∷ rest)) = (taken says l word f e).out.entries
taken_entries says l word e queue = []

-- so many lines go down, from that link on
abbrev pub down_entries : ℕ → ℕ → ℕ → Station → List Entry
down_entries zero l word st = []
down_entries (suc more) l word st =
    let did = moves LineDown l st word in did.out.entries ++ down_entries more (l + 1) word did.station

abbrev pub entries_made : Says → ℕ → Ends → Step → List Entry
entries_made says k e (Happens at l what) = (moves (happening_seen what) l (station_of (party_at at e)) (word_of at k)).out.entries
entries_made says k e (Delivers at l) =
    let party = party_at at e in taken_entries (says at) l (word_of at k) party (slice_get party.incoming (l - 1))
entries_made says k e (Asks at l what) = (asks_peer l what (station_of (party_at at e)) (word_of at k)).out.entries
entries_made says k e (Tells at l status) = (tells_peer l status (station_of (party_at at e)) (word_of at k)).out.entries
entries_made says k e (Tries at l) = (tries_again l (station_of (party_at at e)) (word_of at k)).out.entries
entries_made says k e (Loses at l place) = []
entries_made says k e (Reboots at) =
    let st = station_of (party_at (peer_of at) e) in down_entries (length st.trunk.links) 1 (word_of (peer_of at) k) st
entries_made says k e Reports = []
entries_made says k e Rests = []

-- ---- what a policy is asked

-- an end's, by the frame that it takes: then it answers what it may
abbrev pub IsSaid : (End → CallAsk → Bool → Type 0) → Says → ℕ → Ends → Step → Type 0
IsSaid may says k e (Delivers at l) = IfAsked (may at) (says at) (asked_in_delivery l (word_of at k) (party_at at e))
IsSaid may says k e (Happens at l what) = ⊤
IsSaid may says k e (Asks at l what) = ⊤
IsSaid may says k e (Tells at l status) = ⊤
IsSaid may says k e (Tries at l) = ⊤
IsSaid may says k e (Loses at l place) = ⊤
IsSaid may says k e (Reboots at) = ⊤
IsSaid may says k e Reports = ⊤
IsSaid may says k e Rests = ⊤

-- ---- what is asked of a step, and told of it

-- its link is one of so many, and so is one to drop
abbrev pub IsLinked : ℕ → Step → Type 0
IsLinked links (Happens at l what) = IsOfLink links l
IsLinked links (Delivers at l) = IsOfLink links l
IsLinked links (Asks at l what) = IsOfLink links l × IsOfAsk what links
IsLinked links (Tells at l status) = IsOfLink links l
IsLinked links (Tries at l) = IsOfLink links l
IsLinked links (Loses at l place) = IsOfLink links l
IsLinked links (Reboots at) = ⊤
IsLinked links Reports = ⊤
IsLinked links Rests = ⊤

-- no frame that it sends is longer than the longest
abbrev pub IsShort : Says → ℕ → Ends → Step → Type 0
IsShort says k e (Reboots at) = AllShortDowns (word_of (peer_of at) k) (station_of (party_at (peer_of at) e))
IsShort says k e (Happens at l what) = AreShort (entries_made says k e (Happens at l what))
IsShort says k e (Delivers at l) = AreShort (entries_made says k e (Delivers at l))
IsShort says k e (Asks at l what) = AreShort (entries_made says k e (Asks at l what))
IsShort says k e (Tells at l status) = AreShort (entries_made says k e (Tells at l status))
IsShort says k e (Tries at l) = AreShort (entries_made says k e (Tries at l))
IsShort says k e (Loses at l place) = ⊤
IsShort says k e Reports = ⊤
IsShort says k e Rests = ⊤
