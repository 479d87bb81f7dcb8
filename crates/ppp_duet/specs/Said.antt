-- What two ends say to each other in every run, however late it comes: what the lists in their packets have in common.
use Rattle.std.specs.Prelude.{◌≡◌, ℕ, true, List}
use Rattle.std.specs.List.{AllByRecursion}
use Rattle.ppp_packet.specs.ConfigOption.{ConfigOption}
use Rattle.ppp_auto.specs.Auto.{has_acked}
use Rattle.ppp_auto.specs.OptionTable.{Table}
use Rattle.ppp_auto.specs.Packet.{Packet, Request, Ack, Nak, Reject, Other}
use Rattle.ppp_auto.specs.Reply.{reply_to}
use Rattle.ppp_duet.specs.Duet.{Duet, End, Marked}

-- a property of each list that an end asks for, and of each that it acknowledges, Naks with or rejects
pub record Speech : Type 1 where
  pub asks : List ConfigOption → Type 0
  pub acks : List ConfigOption → Type 0
  pub naks : List ConfigOption → Type 0
  pub rejects : List ConfigOption → Type 0

-- a packet of such an end
abbrev pub IsSaid : Speech → Packet → Type 0
IsSaid s (Request id options) = s.asks options
IsSaid s (Ack id options) = s.acks options
IsSaid s (Nak id options) = s.naks options
IsSaid s (Reject id options) = s.rejects options
IsSaid s (Other code id octets) = Unit {0}

-- An end's own list, its packets under way, and the list that it acknowledged last.
pub record SaidBy (s : Speech) (e : End) (out : List Marked) : Type 0 where
  pub own : s.asks e.auto.own
  pub under_way : AllByRecursion (λ m. IsSaid s m.packet) out
  pub acknowledged : has_acked e.auto.state ≡ true → s.acks e.auto.peer

pub record Said (a b : Speech) (d : Duet) : Type 0 where
  pub by_a : SaidBy a d.a d.to_b
  pub by_b : SaidBy b d.b d.to_a

-- An end with that table says nothing else, to a peer that says nothing else than `theirs`.
pub record Says (t : Table) (mine theirs : Speech) : Type 0 where
  pub first : (word : ℕ) → mine.asks (t.initial word)
  pub after_nak : (last nak : List ConfigOption) (word : ℕ) → mine.asks last → theirs.naks nak →
      mine.asks (t.adapt_nak last nak word)
  pub after_reject : (last reject : List ConfigOption) (word : ℕ) → mine.asks last → theirs.rejects reject →
      mine.asks (t.adapt_reject last reject word)
  pub answers : (own list : List ConfigOption) (naks word id : ℕ) → mine.asks own → theirs.asks list →
      IsSaid mine (reply_to t own naks word id list).answer
