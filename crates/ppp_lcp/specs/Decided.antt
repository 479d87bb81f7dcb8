-- Options that the settings of two ends decide: every one of LCP's but the Magic-Number.
use Rattle.std.specs.Prelude.{ℕ, Bool, if◌then◌else◌, List, [], Option, None}
use Rattle.ppp_lcp.specs.LcpSettings.{LcpSettings}
use Rattle.ppp_lcp.specs.LcpTable.{lcp_rule}
use Rattle.ppp_lcp.specs.declared.lcp_kind.LcpKind.{LcpKind}

-- the body with which an end first asks for an option, if it does
abbrev pub body_asked : LcpKind → LcpSettings → Option (List ℕ)
body_asked kind s = (lcp_rule s kind).first 0

-- whether an end knows its peer's options of that Type
abbrev pub knows : LcpKind → LcpSettings → Bool
knows kind s = (lcp_rule s kind).is_known []

-- the body with which an option is granted to an end of the first settings, if the peer, of the other settings, knows it
abbrev pub body_granted : LcpKind → LcpSettings → LcpSettings → Option (List ℕ)
body_granted kind s t = if knows kind t then body_asked kind s else None
