use Rattle.std.proofs.Common.{◌≡◌, drop}
use Rattle.ppp_party.specs.Calls.{answer_in}
use Rattle.ppp_party.proofs.party.answer_in.Given as goal

abbrev pub invariant-loop-i : goal.invariant-loop-i
invariant-loop-i l = record {
  left : answer_in (drop l.i l.out.entries) ≡ answer_in l.out.entries;
}
