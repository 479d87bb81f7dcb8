-- What is kept of the two ends of a protocol on a link, whatever happens at either end of the world.
use Rattle.std.specs.Prelude.{ℕ}
use Rattle.ppp_auto.specs.Auto.{Auto}
use Rattle.ppp_duet.specs.Duet.{Duet, Setup}
use Rattle.ppp_duet.specs.Reached.{Reached}
use Rattle.ppp_packet.specs.declared.proto.Proto.{Proto}
use Rattle.ppp_party.specs.Ledger.{end_of, ledger_at}
use Rattle.ppp_party.specs.Party.{Ends, turned}
use Rattle.ppp_party.specs.Seat.{IsSeated, Seat, seat_duet}

-- The link as both ends have it, with the automata of the protocol; and a list of the two ends' events leads from their start to
-- this state, each delivery of it from a state that is narrow.
pub record Kept (sa sb : Setup) (p : Proto) (m : ℕ) (e : Ends) : Type 0 where
  pub own : Seat
  pub other : Seat
  pub own_auto : Auto
  pub other_auto : Auto
  pub own_seated : IsSeated sa p m e own own_auto
  pub other_seated : IsSeated sb p m (turned e) other other_auto
  pub reached : Reached sa sb (seat_duet p own_auto own (end_of other_auto (ledger_at other.ledgers p)))

-- the state of the two ends
abbrev pub duet_of : {sa sb : Setup} {p : Proto} {m : ℕ} {e : Ends} → Kept sa sb p m e → Duet
duet_of {p = p} k = seat_duet p k.own_auto k.own (end_of k.other_auto (ledger_at k.other.ledgers p))
