-- Whether the two ends of a world agree on a protocol of a link.
use Rattle.std.specs.Prelude.{◌≡◌, ◌≢◌, ℕ, zero, suc, Bool, true, false, ◌&&◌, List, [], Option, Some, None, option_map, slice_get}
use Rattle.std.specs.Bool.{then_some}
use Rattle.std.specs.Option.{option_and_then}
use Rattle.ppp_packet.specs.ConfigOption.{ConfigOption}
use Rattle.ppp_packet.specs.declared.proto.Proto.{Proto}
use Rattle.ppp_packet.specs.declared.proto.Proto.TheVariants.{Lcp, Ip, Ipv6, Osi, Mpls, Bacp}
use Rattle.ppp_auto.specs.Auto.{Auto, is_opened}
use Rattle.ppp_auto.specs.Reply.{same_list}
use Rattle.ppp_auto.specs.declared.auto_state.AutoState.{AutoState}
use Rattle.ppp_auto.specs.declared.auto_state.AutoState.TheVariants.{Opened}
use Rattle.ppp_options.specs.Differs.{differs}
use Rattle.ppp_options.specs.Fits.{FitsAny}
use Rattle.ppp_options.specs.Rule.{Rule}
use Rattle.ppp_options.specs.Rules.{Allows, Sendable, is_allowed, is_sendable}
use Rattle.ppp_options.specs.declared.number.TheConstants.{OCTETS_U32, OCTETS_U64}
use Rattle.ppp_lcp.specs.LcpKind.{kind_number}
use Rattle.ppp_lcp.specs.LcpSettings.{settings_seen}
use Rattle.ppp_lcp.specs.LcpTable.{FitsMagic, lcp_rules}
use Rattle.ppp_lcp.specs.declared.lcp_kind.LcpKind.TheVariants.{Magic}
use Rattle.ppp_ncp.specs.IpcpTable.{ipcp_rules}
use Rattle.ppp_ncp.specs.Ipv6Table.{FitsIdentifier, ipv6_rules}
use Rattle.ppp_ncp.specs.declared.ipv6_table.TheConstants.{IDENTIFIER}
use Rattle.ppp_osimpls.specs.OsiTable.{osi_rules}
use Rattle.ppp_osimpls.specs.MplsTable.{mpls_rules}
use Rattle.ppp_bacp.specs.BacpTable.{FitsFavored, bacp_rules}
use Rattle.ppp_bacp.specs.declared.bacp_table.TheConstants.{FAVORED_PEER}
use Rattle.ppp_duet.specs.Agreement.{Agree}
use Rattle.ppp_duet.specs.Duet.{Duet, End, Marked}
use Rattle.ppp_link.specs.Automata.{auto_at}
use Rattle.ppp_link.specs.Link.{Link}
use Rattle.ppp_link.specs.LinkTables.{LinkTables}
use Rattle.ppp_party.specs.Frame.{only}
use Rattle.ppp_party.specs.Ledger.{end_of}
use Rattle.ppp_party.specs.Party.{Ends, Party}
use Rattle.ppp_party.specs.Spans.{ledger_on, queue_on}

-- ---- what an end has on a link

-- the link of that number, from 1 on: there is no link 0
abbrev pub link_on : ℕ → List Link → Option Link
link_on zero links = None
link_on (suc before) links = slice_get links before

-- the automaton of a protocol on a link, where the end has both
abbrev pub auto_on : ℕ → Proto → List Link → Option Auto
auto_on m p links = option_and_then (λ k. auto_at k.automata p) (link_on m links)

-- its state
abbrev pub state_on : ℕ → Proto → List Link → Option AutoState
state_on m p links = option_map (λ a. a.state) (auto_on m p links)

-- the rows of a protocol's table, and none where it isn't configured
abbrev pub rules_if : {T : Type 0} → (T → List Rule) → Option T → List Rule
rules_if rules (Some t) = rules t
rules_if rules None = []

abbrev pub rules_of : LinkTables → Proto → List Rule
rules_of t Lcp = lcp_rules (settings_seen t.lcp)
rules_of t Ip = rules_if (λ ip. ipcp_rules ip.own ip.give) t.ip
rules_of t Ipv6 = rules_if (λ ipv6. ipv6_rules ipv6.own ipv6.ask) t.ipv6
rules_of t Osi = rules_if (λ osi. osi_rules osi.align) t.osi
rules_of t Mpls = rules_if (λ mpls. mpls_rules) t.mpls
rules_of t Bacp = rules_if (λ bacp. bacp_rules bacp.favored) t.bacp

-- the same of a link, and none where there is no such link
abbrev pub rules_on : ℕ → Proto → List Link → List Rule
rules_on m p links = rules_if (λ k. rules_of k.tables p) (link_on m links)

-- ---- the two ends of a protocol on a link

-- an end of it, with what is counted there
abbrev pub end_on : ℕ → Proto → Party → Option End
end_on m p e = option_map (λ a. end_of a (ledger_on m p e)) (auto_on m p e.trunk.links)

-- both ends and what is under way between them, where both have it
abbrev pub duet_with : List Marked → List Marked → Option End → Option End → Option Duet
duet_with to_a to_b (Some a) (Some b) = Some (record { a = a; b = b; to_a = to_a; to_b = to_b })
duet_with to_a to_b (Some a) None = None
duet_with to_a to_b None b = None

abbrev pub duet_on : ℕ → Proto → Ends → Option Duet
duet_on m p e = duet_with (only p (queue_on m e.own)) (only p (queue_on m e.other)) (end_on m p e.own) (end_on m p e.other)

-- ---- the tests

-- Two lists of LCP fit where they don't have the same Magic-Number (RFC 1661 section 6.4), two of IPV6CP where they don't have
-- the same Interface-Identifier (RFC 5072 section 4.1), two of BACP where they don't have the same Favored-Peer number
-- (RFC 2125). Others fit always.
abbrev pub fits : Proto → List ConfigOption → List ConfigOption → Bool
fits Lcp one other = differs (kind_number Magic) OCTETS_U32 one other
fits Ip one other = true
fits Ipv6 one other = differs IDENTIFIER OCTETS_U64 one other
fits Osi one other = true
fits Mpls one other = true
fits Bacp one other = differs FAVORED_PEER OCTETS_U32 one other

-- Whether they pass: each one's list is what the other acknowledged last, may be asked for and was allowed against the
-- other's list of that moment, and the two lists fit.
abbrev pub passes : Proto → List Rule → List Rule → End → End → Bool
passes p rs ts a b =
    same_list a.auto.own b.auto.peer && same_list b.auto.own a.auto.peer
    && is_sendable rs a.auto.own && is_sendable ts b.auto.own
    && is_allowed ts b.against a.auto.own && is_allowed rs a.against b.auto.own
    && fits p a.auto.own b.auto.own

-- None where not both are Opened
abbrev pub agree_of : Proto → List Rule → List Rule → Duet → Option Bool
agree_of p rs ts d = then_some (is_opened d.a.auto.state && is_opened d.b.auto.state) (passes p rs ts d.a d.b)

-- whether the two ends of a protocol on a link agree: None too where one of them doesn't have it
abbrev pub agree_on : ℕ → Proto → Ends → Option Bool
agree_on m p e = option_and_then (agree_of p (rules_on m p e.own.trunk.links) (rules_on m p e.other.trunk.links)) (duet_on m p e)

-- The same without the tests, from the links alone: Some true where both are Opened. Wherever `agree_on` isn't Some false, the
-- two are the same (proofs/AgreementLemmas, `told-opened`).
abbrev pub is_opened_if : Option AutoState → Bool
is_opened_if None = false
is_opened_if (Some s) = is_opened s

abbrev pub opened_on : ℕ → Proto → List Link → List Link → Option Bool
opened_on m p own other = then_some (is_opened_if (state_on m p own) && is_opened_if (state_on m p other)) true

-- ---- that they agree

-- both automata of a protocol on a link are Opened
pub record AreOpenedOn (m : ℕ) (p : Proto) (e : Ends) : Type 0 where
  pub own : state_on m p e.own.trunk.links ≡ Some Opened
  pub other : state_on m p e.other.trunk.links ≡ Some Opened

-- two lists of a protocol fit, as its tables have it
abbrev pub Fits : Proto → List ConfigOption → List ConfigOption → Type 0
Fits Lcp = FitsMagic
Fits Ip = FitsAny
Fits Ipv6 = FitsIdentifier
Fits Osi = FitsAny
Fits Mpls = FitsAny
Fits Bacp = FitsFavored

abbrev pub AgreeBy : Proto → List Rule → List Rule → Duet → Type 0
AgreeBy p rs ts d = Agree (Sendable rs) (Sendable ts) (Allows rs) (Allows ts) (Fits p) d

-- both ends have the protocol on the link, and they agree
pub record AgreeOn (m : ℕ) (p : Proto) (e : Ends) : Type 0 where
  pub duet : Duet
  pub there : duet_on m p e ≡ Some duet
  pub agree : AgreeBy p (rules_on m p e.own.trunk.links) (rules_on m p e.other.trunk.links) duet

-- In a state the two ends of a protocol on a link agree if both are Opened, and no report of it says that they don't.
pub record AgreesOn (m : ℕ) (p : Proto) (e : Ends) : Type 0 where
  pub agree : AreOpenedOn m p e → AgreeOn m p e
  pub told : agree_on m p e ≢ Some false
