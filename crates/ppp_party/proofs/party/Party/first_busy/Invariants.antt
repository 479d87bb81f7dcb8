use Rattle.std.proofs.Common.{◌≡◌, ◌+◌, drop}
use Rattle.ppp_party.specs.Party.{first_busy}
use Rattle.ppp_party.proofs.party.Party.first_busy.Given as goal

abbrev pub invariant-loop-i : goal.invariant-loop-i
invariant-loop-i g l = record {
  left : first_busy (1 + l.i) (drop l.i l.self-inside.incoming.items) ≡ first_busy 1 l.self-inside.incoming.items;
}
