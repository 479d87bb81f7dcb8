use Rattle.std.proofs.Common.{arith}
use Rattle.ppp_trunk.proofs.TrunkPhaseLemmas.{few-links}
use Rattle.ppp_trunk.proofs.trunk.Trunk.links.Goals as goal

pub overflow_cast-result : goal.overflow_cast-result
overflow_cast-result c = let few = few-links _ c.self.invariant in omega (arith, few, c.len.ensures, c.self.inside.links.ok.0)

pub returns-clause-most : goal.returns-clause-most
returns-clause-most c = let few = few-links _ c.self.invariant in omega (arith, few, c.len.ensures, c.self.inside.links.ok.0)
