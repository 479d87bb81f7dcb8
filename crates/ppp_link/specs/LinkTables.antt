-- The tables of options that a link negotiates by.
use Rattle.std.specs.Prelude.{ℕ, Bool, true, false, [], Option, Some, None, is_some, option_map}
use Rattle.ppp_packet.specs.declared.proto.Proto.{Proto}
use Rattle.ppp_packet.specs.declared.proto.Proto.TheVariants.{Lcp, Ip, Ipv6, Osi, Mpls, Bacp}
use Rattle.ppp_auto.specs.OptionTable.{Table}
use Rattle.ppp_options.specs.Rules.{table_by}
use Rattle.ppp_lcp.specs.LcpSettings.{settings_seen}
use Rattle.ppp_lcp.specs.LcpTable.{lcp_rules, magic_of}
use Rattle.ppp_lcp.specs.declared.lcp_table.LcpTable.{LcpTable}
use Rattle.ppp_ncp.specs.IpcpTable.{ipcp_rules}
use Rattle.ppp_ncp.specs.Ipv6Table.{ipv6_rules}
use Rattle.ppp_ncp.specs.declared.ipcp_table.IpcpTable.{IpcpTable}
use Rattle.ppp_ncp.specs.declared.ipv6_table.Ipv6Table.{Ipv6Table}
use Rattle.ppp_osimpls.specs.OsiTable.{osi_rules}
use Rattle.ppp_osimpls.specs.MplsTable.{mpls_rules}
use Rattle.ppp_osimpls.specs.declared.osi_table.OsiTable.{OsiTable}
use Rattle.ppp_osimpls.specs.declared.mpls_table.MplsTable.{MplsTable}
use Rattle.ppp_bacp.specs.BacpTable.{bacp_rules}
use Rattle.ppp_bacp.specs.declared.bacp_table.BacpTable.{BacpTable}
use Rattle.ppp_link.specs.LinkSettings.{LinkSettings}

-- LCP's table, and that of each control protocol that is configured
pub record LinkTables : Type 0 where
  pub lcp : LcpTable
  pub ip : Option IpcpTable
  pub ipv6 : Option Ipv6Table
  pub osi : Option OsiTable
  pub mpls : Option MplsTable
  pub bacp : Option BacpTable

-- as plain values
abbrev pub ip_seen : IpcpTable → ℕ × Option ℕ
ip_seen t = (t.own, t.give)

abbrev pub ipv6_seen : Ipv6Table → ℕ × Bool
ipv6_seen t = (t.own, t.ask)

abbrev pub osi_seen : OsiTable → ℕ
osi_seen t = t.align

abbrev pub bacp_seen : BacpTable → ℕ
bacp_seen t = t.favored

abbrev pub tables_seen : LinkTables → LinkSettings
tables_seen t = record {
  lcp = settings_seen t.lcp;
  ip = option_map ip_seen t.ip;
  ipv6 = option_map ipv6_seen t.ipv6;
  osi = option_map osi_seen t.osi;
  mpls = is_some t.mpls;
  bacp = option_map bacp_seen t.bacp;
}

-- a table without a row stands for one that isn't configured
abbrev pub table_if : {T : Type 0} → (T → Table) → Option T → Table
table_if table (Some t) = table t
table_if table None = table_by false [] (λ mine. 0)

-- the tables as the definitions have them
abbrev pub lcp_table : LcpTable → Table
lcp_table t = table_by true (lcp_rules (settings_seen t)) magic_of

abbrev pub ip_table : IpcpTable → Table
ip_table t = table_by false (ipcp_rules t.own t.give) (λ mine. 0)

abbrev pub ipv6_table : Ipv6Table → Table
ipv6_table t = table_by false (ipv6_rules t.own t.ask) (λ mine. 0)

abbrev pub osi_table : OsiTable → Table
osi_table t = table_by false (osi_rules t.align) (λ mine. 0)

abbrev pub mpls_table : MplsTable → Table
mpls_table t = table_by false mpls_rules (λ mine. 0)

abbrev pub bacp_table : BacpTable → Table
bacp_table t = table_by false (bacp_rules t.favored) (λ mine. 0)

-- the table of a protocol
abbrev pub table_of : LinkTables → Proto → Table
table_of t Lcp = lcp_table t.lcp
table_of t Ip = table_if ip_table t.ip
table_of t Ipv6 = table_if ipv6_table t.ipv6
table_of t Osi = table_if osi_table t.osi
table_of t Mpls = table_if mpls_table t.mpls
table_of t Bacp = table_if bacp_table t.bacp
