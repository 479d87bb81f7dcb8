use Rattle.std.proofs.Common.{◌≡◌, ◌++◌, drop, length, map, take}
use Rattle.ppp_party.specs.Ledger.{Ledgers, ledgers_begun}
use Rattle.ppp_party.proofs.party.begin.Given as goal

abbrev pub invariant-loop-i : goal.invariant-loop-i
invariant-loop-i l = record {
  same : length l.ledgers.items ≡ length l.initial.ledgers.items;
  left : l.ledgers.items ≡ map (λ (gs : Ledgers). ledgers_begun) (take l.i l.initial.ledgers.items) ++ drop l.i l.initial.ledgers.items;
}
