-- What is counted of the Configure-Requests of a protocol on a link at one end, and the marks of what it sends. No end reads
-- either: they are there to say what is under way.
use Rattle.std.specs.Prelude.{◌≡◌, ℕ, ◌+◌, ◌%◌, ◌==◌, Bool, true, false, if◌then◌else◌, List, [], ◌∷◌}
use Rattle.ppp_packet.specs.ConfigOption.{ConfigOption}
use Rattle.ppp_packet.specs.Options.{list_of}
use Rattle.ppp_packet.specs.declared.proto.Proto.{Proto}
use Rattle.ppp_packet.specs.declared.proto.Proto.TheVariants.{Lcp, Ip, Ipv6, Osi, Mpls, Bacp}
use Rattle.ppp_auto.specs.declared.auto_state.AutoState.{AutoState}
use Rattle.ppp_auto.specs.declared.auto_state.AutoState.TheVariants.{ReqSent, AckRcvd, AckSent, Opened}
use Rattle.ppp_auto.specs.Auto.{Auto, is_off}
use Rattle.ppp_auto.specs.Packet.{Packet, Request, Ack, Nak, Reject, Other}
use Rattle.ppp_duet.specs.Duet.{End, Marked, mark_of}

pub record Ledger : Type 0 where
  -- the ordinal of the last Configure-Request that was sent
  pub n : ℕ
  -- its list
  pub last : List ConfigOption
  -- the ordinal of the peer's last request that was taken in outside Initial and Starting
  pub got : ℕ
  -- the own list when the request was judged that was acknowledged last
  pub against : List ConfigOption

-- the lists as their octets
abbrev pub ledger_with : ℕ → List ℕ → ℕ → List ℕ → Ledger
ledger_with n last got against = record { n = n; last = list_of last; got = got; against = list_of against }

abbrev pub ledger_begun : Ledger
ledger_begun = record { n = 0; last = []; got = 0; against = [] }

-- the Identifier of an end's first Configure-Request, and of the request of an ordinal
abbrev pub first_id : ℕ
first_id = 1

abbrev pub last_of : ℕ → ℕ
last_of n = (first_id + n + 255) % 256

-- A Configure-Request that is sent draws an ordinal, unless it repeats the last one: then it has its Identifier.
abbrev pub noted_request : Ledger → ℕ → List ConfigOption → Ledger
noted_request g id options = if id == last_of g.n then g else record g { n = g.n + 1; last = options }

-- what is noted of a packet that is sent, and of some
abbrev pub noted : Ledger → Packet → Ledger
noted g (Request id options) = noted_request g id options
noted g (Ack id options) = record g { against = g.last }
noted g (Nak id options) = g
noted g (Reject id options) = g
noted g (Other code id octets) = g

abbrev pub noted_all : Ledger → List Packet → Ledger
noted_all g [] = g
noted_all g (p ∷ ps) = noted_all (noted g p) ps

-- The packets with their marks: a request's is its ordinal, an answer's that of the packet which it answers.
abbrev pub stamp : Ledger → ℕ → Packet → Marked
stamp g mark p = record { mark = mark_of (noted g p).n mark p; packet = p }

abbrev pub stamped : Ledger → ℕ → List Packet → List Marked
stamped g mark [] = []
stamped g mark (p ∷ ps) = stamp g mark p ∷ stamped (noted g p) mark ps

-- what is noted of a packet of that mark that is taken in
abbrev pub heard : Ledger → AutoState → ℕ → Packet → Ledger
heard g state mark (Request id options) = if is_off state then g else record g { got = mark }
heard g state mark (Ack id options) = g
heard g state mark (Nak id options) = g
heard g state mark (Reject id options) = g
heard g state mark (Other code id octets) = g

-- whether the last request is under way or was answered, so that the own list is its list
abbrev pub is_asking : AutoState → Bool
is_asking ReqSent = true
is_asking AckRcvd = true
is_asking AckSent = true
is_asking Opened = true
is_asking s = false

-- An end's ledger fits its automaton: Identifiers follow the ordinals, and the own list is that of the last request.
pub record IsLedgerOf (auto : Auto) (g : Ledger) : Type 0 where
  pub ids : auto.next_id % 256 ≡ (first_id + g.n) % 256
  pub last : is_asking auto.state ≡ true → g.last ≡ auto.own

-- the end that the laws of two ends speak of
abbrev pub end_of : Auto → Ledger → End
end_of auto g = record { auto = auto; n = g.n; got = g.got; against = g.against }

-- ---- the ledgers of a link

pub record Ledgers : Type 0 where
  pub lcp : Ledger
  pub ip : Ledger
  pub ipv6 : Ledger
  pub osi : Ledger
  pub mpls : Ledger
  pub bacp : Ledger

abbrev pub ledger_at : Ledgers → Proto → Ledger
ledger_at gs Lcp = gs.lcp
ledger_at gs Ip = gs.ip
ledger_at gs Ipv6 = gs.ipv6
ledger_at gs Osi = gs.osi
ledger_at gs Mpls = gs.mpls
ledger_at gs Bacp = gs.bacp

-- one for each protocol
abbrev pub ledgers_by : (Proto → Ledger) → Ledgers
ledgers_by f = record { lcp = f Lcp; ip = f Ip; ipv6 = f Ipv6; osi = f Osi; mpls = f Mpls; bacp = f Bacp }

abbrev pub ledgers_begun : Ledgers
ledgers_begun = ledgers_by (λ p. ledger_begun)
