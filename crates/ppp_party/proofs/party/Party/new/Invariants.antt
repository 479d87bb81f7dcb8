use Rattle.std.proofs.Common.{◌≡◌, List, [], replicate}
use Rattle.ppp_party.specs.Frame.{Frame}
use Rattle.ppp_party.specs.Ledger.{ledgers_begun}
use Rattle.ppp_party.proofs.party.Party.new.Given as goal

abbrev pub invariant-loop : goal.invariant-loop
invariant-loop g l = record {
  ledgers : l.ledgers.items ≡ replicate l.counter ledgers_begun;
  incoming : l.incoming.items ≡ replicate {A = List Frame} l.counter [];
}
