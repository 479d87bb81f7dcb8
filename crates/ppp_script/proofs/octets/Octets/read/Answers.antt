use Rattle.std.proofs.Common.{arith}
use Rattle.hex.proofs.HexLemmas.{decode_of-ok}
use Rattle.ppp_script.proofs.octets.Octets.read.Goals as goal

pub invariant_of-result : goal.invariant_of-result
invariant_of-result c = record {
  some = omega arith;
  few = omega arith;
  bytes = (decode_of-ok c.args.field.now c.in-Ok.octets.items c.in-Ok.ensures.ok).3;
}

pub returns-in-Ok-clause-within : goal.returns-in-Ok-clause-within
returns-in-Ok-clause-within c = record {
  some = omega arith;
  few = omega arith;
  bytes = (decode_of-ok c.args.field.now c.in-Ok.octets.items c.in-Ok.ensures.ok).3;
}
