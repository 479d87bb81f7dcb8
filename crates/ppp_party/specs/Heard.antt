-- What is heard of a frame, from what a link lends of it, and the states of its automata before.
use Rattle.std.specs.Prelude.{ℕ, Bool, false, ◌||◌, if◌then◌else◌, Option, Some, None, option_map}
use Rattle.ppp_auto.specs.Auto.{is_opened}
use Rattle.ppp_auto.specs.Packet.{Packet}
use Rattle.ppp_auto.specs.declared.auto_state.AutoState.{AutoState}
use Rattle.ppp_link.specs.Automata.{Automata, auto_at}
use Rattle.ppp_packet.specs.declared.proto.Proto.{Proto}
use Rattle.ppp_packet.specs.declared.proto.Proto.TheVariants.{Lcp, Ip, Ipv6, Osi, Mpls, Bacp}
use Rattle.ppp_trunk.specs.Orders.{is_same}
use Rattle.ppp_party.specs.Frame.{Carried}
use Rattle.ppp_party.specs.Ledger.{Ledger, Ledgers, heard, ledger_at, ledgers_by}
use Rattle.ppp_party.specs.declared.states.States.{States}

-- the states of a link's automata, where they are configured
abbrev pub state_at : States → Proto → Option AutoState
state_at s Lcp = s.lcp
state_at s Ip = s.ip
state_at s Ipv6 = s.ipv6
state_at s Osi = s.osi
state_at s Mpls = s.mpls
state_at s Bacp = s.bacp

abbrev pub state_in : Automata → Proto → Option AutoState
state_in k p = option_map (λ a. a.state) (auto_at k p)

abbrev pub states_of : Automata → States
states_of k = record { lcp = state_in k Lcp; ip = state_in k Ip; ipv6 = state_in k Ipv6; osi = state_in k Osi; mpls = state_in k Mpls; bacp = state_in k Bacp }

-- frames of LCP are let in always, others while LCP is Opened
abbrev pub opened_in : Option AutoState → Bool
opened_in None = false
opened_in (Some s) = is_opened s

abbrev pub is_let_in : States → Proto → Bool
is_let_in s p = is_same Lcp p || opened_in s.lcp

-- what a ledger hears of a packet for an automaton in that state
abbrev pub heard_in : Ledger → Option AutoState → ℕ → Packet → Ledger
heard_in g None mark packet = g
heard_in g (Some state) mark packet = heard g state mark packet

-- one protocol's ledger changes
abbrev pub ledgers_with : Ledgers → Proto → Ledger → Ledgers
ledgers_with gs q g = ledgers_by (λ p. if is_same p q then g else ledger_at gs p)

-- what the ledgers hear of what a link lends
abbrev pub hears : Ledgers → States → ℕ → Option Carried → Ledgers
hears gs s mark None = gs
hears gs s mark (Some c) =
    if is_let_in s c.proto then ledgers_with gs c.proto (heard_in (ledger_at gs c.proto) (state_at s c.proto) mark c.packet) else gs
