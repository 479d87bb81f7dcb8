-- A record that is kept in memory reserved before.
use Rattle.std.specs.Prelude.{◌≡◌, ℕ, ◌+◌, ◌-◌, ◌<◌, ◌≤◌, nat_lt, nat_le, ◌&&◌, Bool, if◌then◌else◌, List, [], ◌∷◌, ◌++◌, All, length, map, take, drop, sum_by, vec_len, vec_capacity, Option, Some, None}
use Rattle.ppp_wires.specs.declared.journal.TheConstants.{MOST_CALLS}
use Rattle.ppp_wires.specs.declared.journal.Entry.{Entry}
use Rattle.ppp_wires.specs.declared.journal.Entry.TheVariants as entry
use Rattle.ppp_wires.specs.declared.journal.Kept.{Kept}
use Rattle.ppp_wires.specs.declared.journal.Journal.TheInside.{Inside}
use Rattle.ppp_wires.specs.declared.wires.Polled.{Polled}
use Rattle.ppp_wires.specs.declared.wires.Polled.TheVariants.{Got, Quiet, Ended, Failed}
use Rattle.ppp_wires.specs.Made.{Made, Connect, Join, Poll, Push, Hang, Reading, Gave, WasQuiet, WasEnded, HasFailed}

-- made: the calls, in order, while they are told; room: how many octets they may have together
pub record JournalState : Type 0 where
  pub made : Option (List Made)
  pub room : ℕ

-- a poll's answer, with these octets
abbrev pub reading_with : Polled → List ℕ → Reading
reading_with (Got count) octets = Gave octets
reading_with Quiet octets = WasQuiet
reading_with Ended octets = WasEnded
reading_with Failed octets = HasFailed

-- the call of an entry, with its octets
abbrev pub made_of : Entry → List ℕ → Made
made_of (entry.Connect port listen answer) octets = Connect port octets listen answer
made_of (entry.Join link answer) octets = Join link answer
made_of (entry.Poll port size answer) octets = Poll port size (reading_with answer octets)
made_of (entry.Push port answer) octets = Push port octets answer
made_of (entry.Hang port) octets = Hang port

-- the call that is kept, with its octets out of all
abbrev pub made_in : List ℕ → Kept → Made
made_in octets kept =
    made_of kept.entry (take (kept.end - kept.start) (drop kept.start octets))

abbrev pub journal_seen : Inside → JournalState
journal_seen j = record {
  made = if j.told then Some (map (made_in j.octets.items) j.calls.items) else None;
  room = j.room;
}

-- the octets of a call that is kept are within all
abbrev pub IsInside : List ℕ → Kept → Type 0
IsInside octets kept = (kept.start ≤ kept.end) × (kept.end ≤ length octets)

pub record IsJournal (j : Inside) : Type 0 where
  pub few : vec_len j.calls ≤ MOST_CALLS
  pub places : MOST_CALLS ≤ vec_capacity j.calls
  pub within : vec_len j.octets ≤ j.room
  pub reserved : j.room ≤ vec_capacity j.octets
  pub inside : All (IsInside j.octets.items) j.calls.items
