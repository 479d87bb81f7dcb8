-- What one link of an end is set to negotiate, as plain values.
use Rattle.std.specs.Prelude.{ℕ, ◌+◌, ◌-◌, Bool, false, if◌then◌else◌, Option, None, is_some, get_or}
use Rattle.std.specs.Bool.{then_some}
use Rattle.std.specs.Option.{option_map, unwrap_or}
use Rattle.ppp_conf.specs.EndConfig.{EndSettings}
use Rattle.ppp_lcp.specs.LcpSettings.{LcpSettings}

pub record LinkSettings : Type 0 where
  pub lcp : LcpSettings
  -- of each control protocol that is configured: the own address and the one to give; the identifier and whether it is
  -- asked for; the alignment; whether there is one; the Favored-Peer number
  pub ip : Option (ℕ × Option ℕ)
  pub ipv6 : Option (ℕ × Bool)
  pub osi : Option ℕ
  pub mpls : Bool
  pub bacp : Option ℕ

-- the own number of a link: the settings have that of link 1, and the others go on from it
abbrev pub link_number : ℕ → Option ℕ → Option ℕ
link_number link first = option_map (λ n. n + (link - 1)) first

-- what an end asks for of LCP on a link
abbrev pub lcp_of_end : ℕ → EndSettings → LcpSettings
lcp_of_end link s = record {
  mru = s.mru;
  accm = s.accm;
  magic = s.magic;
  mrru = s.mrru;
  short = s.short;
  classes = s.classes;
  disc = s.disc;
  link_disc = link_number link s.link_disc;
  pfc = s.pfc;
  acfc = s.acfc;
}

-- the network protocols in the order of the settings: IPv4, IPv6, OSI, MPLS
abbrev pub speaks : EndSettings → ℕ → Bool
speaks s place = get_or s.protocols place false

-- what it asks for of each control protocol that is spoken: IPV6CP asks for nothing without an identifier
abbrev pub ip_of : EndSettings → Option (ℕ × Option ℕ)
ip_of s = then_some (speaks s 0) (s.ip, s.give)

abbrev pub ipv6_of : EndSettings → Option (ℕ × Bool)
ipv6_of s = then_some (speaks s 1) (unwrap_or s.ifid 0, is_some s.ifid)

abbrev pub osi_of : EndSettings → Option ℕ
osi_of s = then_some (speaks s 2) s.align

abbrev pub bacp_of : EndSettings → Option ℕ
bacp_of s = if s.bap then s.favored else None

-- what an end's settings say of a link
abbrev pub settings_of : ℕ → EndSettings → LinkSettings
settings_of link s = record {
  lcp = lcp_of_end link s;
  ip = ip_of s;
  ipv6 = ipv6_of s;
  osi = osi_of s;
  mpls = speaks s 3;
  bacp = bacp_of s;
}
