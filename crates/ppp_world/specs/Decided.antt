-- What the settings of two ends decide of their lists of LCP.
use Rattle.std.specs.Prelude.{◌≡◌, true}
use Rattle.ppp_packet.specs.Options.{find_kind}
use Rattle.ppp_auto.specs.Auto.{has_acked}
use Rattle.ppp_duet.specs.Duet.{Duet, End}
use Rattle.ppp_duet.specs.EveryRun.{InEveryRun}
use Rattle.ppp_lcp.specs.Decided.{body_asked, knows, body_granted}
use Rattle.ppp_lcp.specs.LcpKind.{kind_number}
use Rattle.ppp_lcp.specs.LcpSettings.{LcpSettings, settings_seen}
use Rattle.ppp_lcp.specs.declared.lcp_kind.LcpKind.{LcpKind}
use Rattle.ppp_lcp.specs.declared.lcp_table.LcpTable.{LcpTable}
use Rattle.ppp_link.specs.LinkTables.{lcp_table}

-- Of an option, at an end `e` of the settings s whose peer `f` has t:
pub record Decided (kind : LcpKind) (s t : LcpSettings) (e f : End) : Type 0 where
  -- if the peer knows it, the own list has it as it was first asked for,
  pub own : knows kind t ≡ true → find_kind (kind_number kind) e.auto.own ≡ body_asked kind s
  -- and the list that the peer acknowledged last has it so exactly if it is asked for and the peer knows it
  pub acknowledged : has_acked f.auto.state ≡ true → find_kind (kind_number kind) f.auto.peer ≡ body_granted kind s t

pub record AreDecided (kind : LcpKind) (s t : LcpSettings) (d : Duet) : Type 0 where
  pub of_a : Decided kind s t d.a d.b
  pub of_b : Decided kind t s d.b d.a

-- in every state of every run, however wide the spans are
abbrev pub SettingsDecide : LcpKind → LcpTable → LcpTable → Type 0
SettingsDecide kind a b = InEveryRun lcp_table (AreDecided kind (settings_seen a) (settings_seen b)) a b
