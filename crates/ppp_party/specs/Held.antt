-- What holds of a protocol on a link in each state of a world, whether both ends speak it or not, and what an event at an end
-- makes of it.
use Rattle.std.specs.Prelude.{◌≡◌, ◌≤◌, ◌⊎◌, ℕ, [], length, None}
use Rattle.ppp_duet.specs.Duet.{Setup}
use Rattle.ppp_link.specs.Automata.{auto_at, automata_begun}
use Rattle.ppp_packet.specs.declared.proto.Proto.{Proto}
use Rattle.ppp_party.specs.Frame.{only}
use Rattle.ppp_party.specs.Kept.{Kept}
use Rattle.ppp_party.specs.Ledger.{ledger_at}
use Rattle.ppp_party.specs.Party.{Ends, room, turned}
use Rattle.ppp_party.specs.Seat.{Seat, SeatAt}
use Rattle.ppp_party.specs.Spans.{NarrowOn, sent_on}

-- both ends speak it: the laws on two ends hold of it
pub record KeptOn (m : ℕ) (p : Proto) (e : Ends) : Type 0 where
  pub own_setup : Setup
  pub other_setup : Setup
  pub kept : Kept own_setup other_setup p m e

-- the other end doesn't speak it, and has sent nothing of it
pub record IsLone (m : ℕ) (p : Proto) (e : Ends) : Type 0 where
  pub own : Seat
  pub other : Seat
  pub own_at : SeatAt m e own
  pub other_at : SeatAt m (turned e) other
  pub few_out : length own.outgoing ≤ room
  pub few_in : length own.incoming ≤ room
  -- no automaton of it is there, and none will be when the end begins anew
  pub silent : auto_at other.link.automata p ≡ None
  pub unset : auto_at (automata_begun other.link.tables) p ≡ None
  pub none_sent : (ledger_at other.ledgers p).n ≡ 0
  pub none_under_way : only p own.incoming ≡ []

-- one or the other
abbrev pub IsHeld : ℕ → Proto → Ends → Type 0
IsHeld m p e = KeptOn m p e ⊎ (IsLone m p e ⊎ IsLone m p (turned e))

-- What an event of the first end, on whatever link, makes of a protocol on a link: it is held again; where the event draws no
-- ordinal for it there, no span becomes too wide; and it draws none at the other end.
pub record HeldAfter (m : ℕ) (p : Proto) (before after : Ends) : Type 0 where
  pub held : IsHeld m p after
  pub narrow : sent_on m p after.own ≤ sent_on m p before.own → NarrowOn m p after
  pub other : sent_on m p after.other ≡ sent_on m p before.other
