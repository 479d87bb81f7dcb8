use Rattle.std.proofs.Common.{◌≡◌, ◌++◌, drop, length, map, take}
use Rattle.ppp_party.specs.Party.{unheard}
use Rattle.ppp_party.proofs.party.forget.Given as goal

abbrev pub invariant-loop-i : goal.invariant-loop-i
invariant-loop-i l = record {
  same : length l.ledgers.items ≡ length l.initial.ledgers.items;
  left : l.ledgers.items ≡ map unheard (take l.i l.initial.ledgers.items) ++ drop l.i l.initial.ledgers.items;
}
