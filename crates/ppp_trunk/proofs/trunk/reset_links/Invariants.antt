use Rattle.std.proofs.Common.{◌≡◌, ◌++◌, drop, length, map, take}
use Rattle.ppp_link.specs.Link.{Link}
use Rattle.ppp_trunk.specs.Trunk.{link_ready}
use Rattle.ppp_trunk.proofs.trunk.reset_links.Given as goal

abbrev pub invariant-loop-i : goal.invariant-loop-i
invariant-loop-i l = record {
  same : length l.links.items ≡ length l.initial.links.items;
  left : l.links.items ≡ map (λ (k : Link). link_ready k.tables) (take l.i l.initial.links.items) ++ drop l.i l.initial.links.items;
}
