use Rattle.std.proofs.Common.{◌≡◌, drop}
use Rattle.std.specs.List.{find}
use Rattle.ppp_bap.specs.LinkSet.{has_link, link_numbers}
use Rattle.ppp_bap.proofs.link_set.least_link.Given as goal

abbrev pub invariant-loop-link : goal.invariant-loop-link
invariant-loop-link l = find (has_link l.links) (drop l.link-index link_numbers) ≡ find (has_link l.links) link_numbers
