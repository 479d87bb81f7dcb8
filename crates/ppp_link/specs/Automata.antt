-- The automata of a link: LCP's, and those of the control protocols that are configured.
use Rattle.std.specs.Prelude.{ℕ, min, Bool, false, ◌&&◌, if◌then◌else◌, List, Option, Some, None, option_map, is_some}
use Rattle.std.specs.Option.{unwrap_or}
use Rattle.ppp_packet.specs.ConfigOption.{ConfigOption}
use Rattle.ppp_packet.specs.declared.proto.Proto.{Proto}
use Rattle.ppp_packet.specs.declared.proto.Proto.TheVariants.{Lcp, Ip, Ipv6, Osi, Mpls, Bacp}
use Rattle.ppp_auto.specs.Auto.{Auto, begun, is_opened, is_timed}
use Rattle.ppp_frame.specs.declared.form.Form.{Form}
use Rattle.ppp_options.specs.declared.number.TheConstants.{OCTETS_U16, OCTETS_U32}
use Rattle.ppp_lcp.specs.LcpGrant.{granted, is_granted}
use Rattle.ppp_lcp.specs.declared.lcp_kind.LcpKind.TheVariants as kind
use Rattle.ppp_lcp.specs.declared.lcp_table.TheConstants.{DEFAULT_MRU, DEFAULT_ACCM}
use Rattle.ppp_auto.specs.OptionTable.{Table}
use Rattle.ppp_link.specs.LinkTables.{LinkTables, lcp_table, ip_table, ipv6_table, osi_table, mpls_table, bacp_table}
use Rattle.ppp_auto.specs.declared.auto.TheConstants.{MOST_CAP}

pub record Automata : Type 0 where
  pub lcp : Auto
  pub ip : Option Auto
  pub ipv6 : Option Auto
  pub osi : Option Auto
  pub mpls : Option Auto
  pub bacp : Option Auto
  -- the Identifier of the next Protocol-Reject
  pub reject_id : ℕ

-- the automaton of a protocol, where that is configured
abbrev pub auto_at : Automata → Proto → Option Auto
auto_at k Lcp = Some k.lcp
auto_at k Ip = k.ip
auto_at k Ipv6 = k.ipv6
auto_at k Osi = k.osi
auto_at k Mpls = k.mpls
auto_at k Bacp = k.bacp

-- whether its restart timer is on
abbrev pub timed_if : Option Auto → Bool
timed_if None = false
timed_if (Some a) = is_timed a.state

abbrev pub is_timed_at : Automata → Proto → Bool
is_timed_at k p = timed_if (auto_at k p)

-- whether a protocol is configured
abbrev pub is_there : Automata → Proto → Bool
is_there k p = is_some (auto_at k p)

-- one protocol's automaton changes
abbrev pub changed : Automata → Proto → (Auto → Auto) → Automata
changed k Lcp f = record k { lcp = f k.lcp }
changed k Ip f = record k { ip = option_map f k.ip }
changed k Ipv6 f = record k { ipv6 = option_map f k.ipv6 }
changed k Osi f = record k { osi = option_map f k.osi }
changed k Mpls f = record k { mpls = option_map f k.mpls }
changed k Bacp f = record k { bacp = option_map f k.bacp }

-- all of them change
abbrev pub all_changed : Automata → (Auto → Auto) → Automata
all_changed k f = record {
  lcp = f k.lcp;
  ip = option_map f k.ip;
  ipv6 = option_map f k.ipv6;
  osi = option_map f k.osi;
  mpls = option_map f k.mpls;
  bacp = option_map f k.bacp;
  reject_id = k.reject_id;
}

-- with that cap
abbrev pub with_cap : ℕ → Auto → Auto
with_cap cap a = record a { cap = cap }

-- the first Identifier
abbrev pub first_id : ℕ
first_id = 1

-- as they begin
abbrev pub begun_if : {T : Type 0} → (T → Table) → Option T → Option Auto
begun_if table tables = option_map (λ t. begun (table t) first_id) tables

abbrev pub automata_begun : LinkTables → Automata
automata_begun t = record {
  lcp = begun (lcp_table t.lcp) first_id;
  ip = begun_if ip_table t.ip;
  ipv6 = begun_if ipv6_table t.ipv6;
  osi = begun_if osi_table t.osi;
  mpls = begun_if mpls_table t.mpls;
  bacp = begun_if bacp_table t.bacp;
  reject_id = first_id;
}

-- ---- what LCP grants

-- the Maximum-Receive-Unit of a list, and its map of octets to escape
abbrev pub mru_of : List ConfigOption → ℕ
mru_of list = unwrap_or (granted kind.Mru OCTETS_U16 list) DEFAULT_MRU

abbrev pub accm_of : List ConfigOption → ℕ
accm_of list = unwrap_or (granted kind.Accm OCTETS_U32 list) DEFAULT_ACCM

-- The most octets of a packet that is cut: 1,500, and while LCP is Opened no more than the peer receives.
abbrev pub cap_of : Auto → ℕ
cap_of lcp = if is_opened lcp.state then min MOST_CAP (mru_of lcp.peer) else MOST_CAP

-- LCP's frames have whole headers, and each octet below 20 is escaped (RFC 1661 section 6.5, RFC 1662 section 7.1).
abbrev pub whole_form : Form
whole_form = record { map = DEFAULT_ACCM; ac = false; pf = false }

-- So have others while LCP isn't Opened; while it is, they are written as the peer asked for.
abbrev pub granted_form : List ConfigOption → Form
granted_form list = record { map = accm_of list; ac = is_granted kind.Acfc list; pf = is_granted kind.Pfc list }

abbrev pub form_of : Auto → Form
form_of lcp = if is_opened lcp.state then granted_form lcp.peer else whole_form

abbrev pub form_for : Auto → Proto → Form
form_for lcp Lcp = whole_form
form_for lcp p = form_of lcp

-- whether address and control may be left out in what is read, and whether the protocol may be short: while LCP is Opened, as
-- this end asked for
abbrev pub reads_ac : Auto → Bool
reads_ac lcp = is_opened lcp.state && is_granted kind.Acfc lcp.own

abbrev pub reads_pf : Auto → Bool
reads_pf lcp = is_opened lcp.state && is_granted kind.Pfc lcp.own
