use Rattle.std.proofs.Common.{◌≡◌, length}
use Rattle.ppp_lcp.specs.LcpGrant.{granted_disc}
use Rattle.ppp_lcp.proofs.lcp_grant.disc_in.Given as goal

abbrev pub invariant-options : goal.invariant-options
invariant-options l = granted_disc l.list ≡ granted_disc l.left

abbrev pub decreases-options : goal.decreases-options
decreases-options l = length l.left
