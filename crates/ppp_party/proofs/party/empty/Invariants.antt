use Rattle.std.proofs.Common.{◌≡◌, ◌++◌, List, [], drop, length, map, take}
use Rattle.ppp_party.specs.Frame.{Frame}
use Rattle.ppp_party.proofs.party.empty.Given as goal

abbrev pub invariant-loop-i : goal.invariant-loop-i
invariant-loop-i l = record {
  same : length l.incoming.items ≡ length l.initial.incoming.items;
  left : l.incoming.items ≡ map (λ (queue : List Frame). []) (take l.i l.initial.incoming.items) ++ drop l.i l.initial.incoming.items;
}
