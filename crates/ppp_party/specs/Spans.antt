-- How far the ordinals of a protocol on a link span, at both ends of a world.
use Rattle.std.specs.Prelude.{ℕ, ◌-◌, ◌≤◌, List, [], ◌++◌, Option, Some, None, slice_get}
use Rattle.ppp_duet.specs.Span.{answers, least, requests, span_of, widest}
use Rattle.ppp_packet.specs.declared.proto.Proto.{Proto}
use Rattle.ppp_party.specs.Frame.{Frame, only}
use Rattle.ppp_party.specs.Ledger.{Ledger, Ledgers, ledger_at, ledger_begun}
use Rattle.ppp_party.specs.Party.{Ends, Party, turned}

-- what is counted of a protocol on a link at an end; as at the beginning, where there is no such link
abbrev pub ledger_if : Proto → Option Ledgers → Ledger
ledger_if p None = ledger_begun
ledger_if p (Some gs) = ledger_at gs p

abbrev pub ledger_on : ℕ → Proto → Party → Ledger
ledger_on m p e = ledger_if p (slice_get e.ledgers (m - 1))

-- the ordinal of the last Configure-Request that it sent
abbrev pub sent_on : ℕ → Proto → Party → ℕ
sent_on m p e = (ledger_on m p e).n

-- the frames under way to an end on a link
abbrev pub queue_if : Option (List Frame) → List Frame
queue_if None = []
queue_if (Some queue) = queue

abbrev pub queue_on : ℕ → Party → List Frame
queue_on m e = queue_if (slice_get e.incoming (m - 1))

-- the least ordinal of a request of the first end that is under way itself, or whose answer is; the last one's, if none is
abbrev pub oldest_on : ℕ → Proto → Ends → ℕ
oldest_on m p e =
    least (sent_on m p e.own) (requests (only p (queue_on m e.other)) ++ answers (only p (queue_on m e.own)))

-- how far its ordinals span
abbrev pub span_on : ℕ → Proto → Ends → ℕ
span_on m p e = span_of (sent_on m p e.own) (only p (queue_on m e.other)) (only p (queue_on m e.own))

-- neither end's span is too wide
pub record NarrowOn (m : ℕ) (p : Proto) (e : Ends) : Type 0 where
  pub of_own : span_on m p e ≤ widest
  pub of_other : span_on m p (turned e) ≤ widest
