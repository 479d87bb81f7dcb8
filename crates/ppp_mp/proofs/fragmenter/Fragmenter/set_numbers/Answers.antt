use Rattle.std.proofs.Common.{arith}
use Rattle.ppp_mp.proofs.FragmenterLemmas.{reduced-is}
use Rattle.ppp_mp.proofs.fragmenter.Fragmenter.set_numbers.Goals as goal

pub invariant_of-self : goal.invariant_of-self
invariant_of-self c = reduced-is c.self.inside.short c.args.numbers _ _ c.space_of_form.ensures c.reduce.ensures (omega arith)
