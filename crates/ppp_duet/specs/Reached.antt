-- States that a list of events leads to from the start, and what holds of them.
use Rattle.std.specs.Prelude.{◌≡◌, ℕ, ◌+◌, ◌%◌, true, List, ◌++◌, take}
use Rattle.std.specs.List.{AllByRecursion}
use Rattle.ppp_packet.specs.ConfigOption.{ConfigOption}
use Rattle.ppp_auto.specs.Auto.{has_acked}
use Rattle.ppp_auto.specs.Packet.{Request}
use Rattle.ppp_duet.specs.Duet.{Duet, End, Event, Marked, Setup, run, start}
use Rattle.ppp_duet.specs.NarrowRun.{IsNarrowWhereTaken}
use Rattle.ppp_duet.specs.Span.{least, requests, answers}

-- a list of events leads from the start to that state, and each state before a delivery is narrow
pub record Reached (sa sb : Setup) (d : Duet) : Type 0 where
  pub events : List Event
  pub narrow : IsNarrowWhereTaken sa sb events (start sa sb)
  pub ends : run sa sb events (start sa sb) ≡ d

-- a request has a list of that property
abbrev pub IsKeptIn : (List ConfigOption → Type 0) → Marked → Type 0
IsKeptIn keeps m = (id : ℕ) (options : List ConfigOption) → m.packet ≡ Request id options → keeps options

-- The lists of an end `e`: its own one, those under way to the other end `f`, and the one that `f` acknowledged last.
pub record Lists (keeps : List ConfigOption → Type 0) (e f : End) (out : List Marked) : Type 0 where
  pub own : keeps e.auto.own
  pub under_way : AllByRecursion (IsKeptIn keeps) out
  pub acknowledged : has_acked f.auto.state ≡ true → keeps f.auto.peer

pub record Carried (keeps_a keeps_b : List ConfigOption → Type 0) (d : Duet) : Type 0 where
  pub of_a : Lists keeps_a d.a d.b d.to_b
  pub of_b : Lists keeps_b d.b d.a d.to_a

-- The Identifier of the next request is the first one plus the ordinal of the last, modulo 256.
pub record IdsFollow (sa sb : Setup) (d : Duet) : Type 0 where
  pub of_a : d.a.auto.next_id % 256 ≡ (sa.first + d.a.n) % 256
  pub of_b : d.b.auto.next_id % 256 ≡ (sb.first + d.b.n) % 256

-- Of an end's requests under way the first one in its queue is the oldest, and of the answers to these the first one.
pub record OldestFirst (d : Duet) : Type 0 where
  pub of_a : least d.a.n (requests d.to_b ++ answers d.to_a) ≡ least d.a.n (take 1 (requests d.to_b) ++ take 1 (answers d.to_a))
  pub of_b : least d.b.n (requests d.to_a ++ answers d.to_b) ≡ least d.b.n (take 1 (requests d.to_a) ++ take 1 (answers d.to_b))
