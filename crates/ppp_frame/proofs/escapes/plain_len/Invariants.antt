use Rattle.std.proofs.Common.{◌≡◌, ◌+◌, ◌≤◌, length, drop}
use Rattle.ppp_frame.specs.Escapes.{unstuffed}
use Rattle.ppp_frame.proofs.escapes.plain_len.Given as goal

abbrev pub invariant-loop-octet : goal.invariant-loop-octet
invariant-loop-octet l = record {
  rest : l.size + length (unstuffed l.behind (drop l.octet-index l.run)) ≡ length (unstuffed l.escaped l.run);
  within : l.size ≤ l.octet-index;
}
