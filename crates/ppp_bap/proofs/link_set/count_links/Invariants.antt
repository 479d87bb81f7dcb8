use Rattle.std.proofs.Common.{◌≡◌, take}
use Rattle.std.specs.List.{count_by}
use Rattle.ppp_bap.specs.LinkSet.{has_link, link_numbers}
use Rattle.ppp_bap.proofs.link_set.count_links.Given as goal

abbrev pub invariant-loop-link : goal.invariant-loop-link
invariant-loop-link l = l.count ≡ count_by (has_link l.links) (take l.link-index link_numbers)
