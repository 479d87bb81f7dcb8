-- What an end is set to ask for of LCP, as plain values.
use Rattle.std.specs.Prelude.{ℕ, ◌≤◌, Bool, List, length, take, Option, IsTrue}
use Rattle.ppp_packet.specs.DiscClass.{is_good_disc}
use Rattle.ppp_lcp.specs.LcpRanges.{is_mrru, are_classes}
use Rattle.ppp_lcp.specs.declared.lcp_table.LcpTable.{LcpTable}
use Rattle.ppp_lcp.specs.declared.lcp_table.TheConstants.{LEAST_MRU, MOST_MRU}

pub record LcpSettings : Type 0 where
  pub mru : ℕ
  pub accm : ℕ
  pub magic : Bool
  pub mrru : ℕ
  pub short : Bool
  pub classes : ℕ
  -- the endpoint discriminator: its class, and its address
  pub disc : ℕ × List ℕ
  pub link_disc : Option ℕ
  pub pfc : Bool
  pub acfc : Bool

-- each value is within its range
pub record IsRanged (s : LcpSettings) : Type 0 where
  pub least_mru : LEAST_MRU ≤ s.mru
  pub most_mru : s.mru ≤ MOST_MRU
  pub is_mrru : IsTrue (is_mrru s.mrru)
  pub are_classes : IsTrue (are_classes s.short s.classes)
  pub is_disc : IsTrue (is_good_disc s.disc.0 (length s.disc.1))

-- a table as the definitions have it
abbrev pub settings_seen : LcpTable → LcpSettings
settings_seen t = record {
  mru = t.mru;
  accm = t.accm;
  magic = t.magic;
  mrru = t.mrru;
  short = t.short;
  classes = t.classes;
  disc = (t.disc.class, take t.disc.size t.disc.address);
  link_disc = t.link_disc;
  pfc = t.pfc;
  acfc = t.acfc;
}
