-- Runs of two ends that ask for links, computed.
use Rattle.std.proofs.Common.{◌≡◌, ℕ, Bool, true, false, List, [], ◌∷◌, ◌++◌, refl}
use Rattle.std.specs.Prelude.{Some, None}
use Rattle.ppp_bap.specs.LinkSet.{some_link}
use Rattle.ppp_bap.specs.declared.bap_ask.BapAsk.TheVariants.{Call, Drop}
use Rattle.ppp_pair.specs.Pair.{A, Asked, Asks, AsksAgain, B, Draws, End, EndsWait, Event, Granted, Happening, Joins, Key, Leaves, Pair, Reboots, Request, Response, Side, TakesRequest, TakesResponse, Took, at_first, run, start, with_link}
use Rattle.ppp_pair.specs.Response.{Ack, CallResponse, DropResponse, FullNak, Nak, Rej}

abbrev event : Side → Happening → Event
event side what = record { side = side; what = what }

abbrev key : ℕ → ℕ → Key
key boots n = record { boots = boots; ordinal = n }

abbrev after : List Event → Pair
after es = run es start

-- of the links 1 and 2, whether an end has joined them
abbrev links : End → Bool × Bool
links e = (e.joined 1, e.joined 2)

abbrev marks : End → Bool × Bool
marks e = (e.marked 1, e.marked 2)

-- both ends join the links 1 and 2
abbrev two_links : List Event
two_links = event A (Joins 1) ∷ event B (Joins 1) ∷ event A (Joins 2) ∷ event B (Joins 2) ∷ []

-- ---- a drop is asked, granted and closed

-- The first end asks to drop link 1, and the other one grants it.
abbrev promised_run : List Event
promised_run = two_links ++ event A (Asks (Drop 1)) ∷ event B (TakesRequest 1 (Drop 1) Ack) ∷ []

promised_marks : marks (after promised_run).b ≡ (true, false)
unfolding at_first with_link some_link
promised_marks = refl

-- It takes the Ack, and the link leaves.
abbrev closed_run : List Event
closed_run = promised_run ++ event A (TakesResponse 1 DropResponse Ack) ∷ []

closed_links : links (after closed_run).a ≡ (false, true)
unfolding at_first with_link some_link
closed_links = refl

closed_there : ((after closed_run).b.closed 1 ≡ true) × ((after closed_run).b.closed 2 ≡ false)
unfolding at_first with_link some_link
closed_there = (refl, refl)

closed_deeds : ((after closed_run).a.past ≡ Granted (key 0 1) ∷ Asked (key 0 1) ∷ []) × ((after closed_run).b.past ≡ Took (key 0 1) Ack ∷ [])
unfolding at_first with_link some_link
closed_deeds = (refl, refl)

closed_waits : (after closed_run).a.waiting ≡ None
unfolding at_first with_link some_link
closed_waits = refl

-- A second copy of the Ack changes nothing.
closed_once : after (closed_run ++ event A (TakesResponse 1 DropResponse Ack) ∷ []) ≡ after closed_run
unfolding at_first with_link some_link
closed_once = refl

-- Link 1 can't join again while the other end has it. Once it has left there it can, unmarked at both ends.
joins_not_yet : links (after (closed_run ++ event A (Joins 1) ∷ [])).a ≡ (false, true)
unfolding at_first with_link some_link
joins_not_yet = refl

abbrev joined_anew : List Event
joined_anew = closed_run ++ event B (Leaves 1) ∷ event A (Joins 1) ∷ event B (Joins 1) ∷ []

joins_anew : (links (after joined_anew).a ≡ (true, true)) × (links (after joined_anew).b ≡ (true, true)) × (marks (after joined_anew).b ≡ (false, false))
unfolding at_first with_link some_link
joins_anew = (refl, refl, refl)

-- and what the other end closed before is forgotten
closed_before : ((after closed_run).b.closed 1 ≡ true) × ((after joined_anew).b.closed 1 ≡ false)
unfolding at_first with_link some_link
closed_before = (refl, refl)

-- Where the Ack comes and no other link is there any more, the link stays. The wait ends.
abbrev alone_run : List Event
alone_run = promised_run ++ event A (Leaves 2) ∷ event A (TakesResponse 1 DropResponse Ack) ∷ []

alone_stays : (links (after alone_run).a ≡ (true, false)) × ((after alone_run).a.waiting ≡ None) × ((after alone_run).b.closed 1 ≡ false)
unfolding at_first with_link some_link
alone_stays = (refl, refl, refl)

-- The last link isn't promised: an Ack of it changes nothing, and a Full-Nak ends the wait.
abbrev last_asked : List Event
last_asked = closed_run ++ event A (Asks (Drop 2)) ∷ event B (Leaves 1) ∷ []

last_not_promised : after (last_asked ++ event B (TakesRequest 2 (Drop 2) Ack) ∷ []) ≡ after last_asked
unfolding at_first with_link some_link
last_not_promised = refl

last_refused : let p = after (last_asked ++ event B (TakesRequest 2 (Drop 2) FullNak) ∷ event A (TakesResponse 2 DropResponse FullNak) ∷ []) in
    (links p.a ≡ (false, true)) × (p.a.waiting ≡ None)
unfolding at_first with_link some_link
last_refused = (refl, refl)

-- ---- two crossing drops

-- Each end asks to drop a link before it took the other's request.
abbrev crossing_run : List Event
crossing_run = two_links ++ event A (Asks (Drop 1)) ∷ event B (Asks (Drop 2)) ∷ []

-- One request waits at most: another isn't sent, whatever it asks.
one_waits : (after (crossing_run ++ event A (Asks Call) ∷ []) ≡ after crossing_run) ×
    (after (crossing_run ++ event A (Asks (Drop 2)) ∷ []) ≡ after crossing_run)
unfolding at_first with_link some_link
one_waits = (refl, refl)

-- While its own waits an end grants none.
none_granted : after (crossing_run ++ event A (TakesRequest 1 (Drop 2) Ack) ∷ event B (TakesRequest 1 (Drop 1) Ack) ∷ []) ≡ after crossing_run
unfolding at_first with_link some_link
none_granted = refl

-- The first end is favoured, answers a Nak and goes on waiting. The other one gives up its own request and grants.
abbrev one_run : List Event
one_run = crossing_run ++ event A (TakesRequest 1 (Drop 2) Nak) ∷ event B EndsWait ∷ event B (TakesRequest 1 (Drop 1) Ack) ∷
    event B (TakesResponse 1 DropResponse Nak) ∷ event A (TakesResponse 1 DropResponse Ack) ∷ []

one_granted : ((after one_run).a.past ≡ Granted (key 0 1) ∷ Took (key 0 1) Nak ∷ Asked (key 0 1) ∷ []) ×
    ((after one_run).b.past ≡ Took (key 0 1) Ack ∷ Asked (key 0 1) ∷ [])
unfolding at_first with_link some_link
one_granted = (refl, refl)

one_closed : (links (after one_run).a ≡ (false, true)) × (links (after one_run).b ≡ (true, true))
unfolding at_first with_link some_link
one_closed = (refl, refl)

-- ---- single events

-- A response of another Type isn't one to the request that waits, whatever its ordinal.
abbrev call_waits : Pair
call_waits = record start {
  a = record start.a {
    waiting = Some (record { ordinal = 1; what = Call });
    coming = Response 1 DropResponse Ack ∷ Response 1 CallResponse Rej ∷ Response 1 CallResponse Nak ∷ [];
  };
}

other_type : at_first call_waits (TakesResponse 1 DropResponse Ack) ≡ call_waits
unfolding at_first
other_type = refl

own_type : (at_first call_waits (TakesResponse 1 CallResponse Rej)).a.waiting ≡ None
unfolding at_first
own_type = refl

nak_ends : (at_first call_waits (TakesResponse 1 CallResponse Nak)).a.waiting ≡ None
unfolding at_first
nak_ends = refl

-- What wasn't sent doesn't come.
never_sent : at_first call_waits (TakesResponse 1 CallResponse Ack) ≡ call_waits
unfolding at_first
never_sent = refl

-- A link that isn't joined isn't asked for, nor promised.
not_joined : after (two_links ++ event A (Asks (Drop 3)) ∷ []) ≡ after two_links
unfolding at_first with_link some_link
not_joined = refl

abbrev left_meanwhile : List Event
left_meanwhile = two_links ++ event A (Asks (Drop 1)) ∷ event B (Leaves 1) ∷ []

not_promised : after (left_meanwhile ++ event B (TakesRequest 1 (Drop 1) Ack) ∷ []) ≡ after left_meanwhile
unfolding at_first with_link some_link
not_promised = refl

-- A link that leaves takes its mark and the wait to drop it along.
leaves_unmarked : marks (after (promised_run ++ event B (Leaves 1) ∷ [])).b ≡ (false, false)
unfolding at_first with_link some_link
leaves_unmarked = refl

leaves_unasked : (after (promised_run ++ event A (Leaves 1) ∷ [])).a.waiting ≡ None
unfolding at_first with_link some_link
leaves_unasked = refl

-- Copies and indications: a copy keeps its ordinal, whatever was drawn since.
copied : (after (two_links ++ event A (Asks Call) ∷ event A Draws ∷ event A AsksAgain ∷ [])).b.coming ≡ Request 1 Call ∷ Request 1 Call ∷ []
unfolding at_first with_link some_link
copied = refl

-- A reboot empties both ends, and both keep their pasts. The end that began anew asks by a key that is new.
abbrev anew_run : List Event
anew_run = one_run ++ event A (Asks Call) ∷ event B (Asks Call) ∷ event A Reboots ∷ []

emptied_both : let p = after anew_run in
    (links p.a ≡ (false, false)) × (links p.b ≡ (false, false)) × (p.a.waiting ≡ None) × (p.b.waiting ≡ None) × (p.a.coming ≡ []) × (p.b.coming ≡ [])
unfolding at_first with_link some_link
emptied_both = (refl, refl, refl, refl, refl, refl)

new_key : (after (anew_run ++ event A (Asks Call) ∷ [])).a.past ≡ Asked (key 1 1) ∷ Asked (key 0 2) ∷ (after one_run).a.past
unfolding at_first with_link some_link
new_key = refl
