use Rattle.std.proofs.Common.{arith}
use Rattle.ppp_trunk.proofs.TrunkPhaseLemmas.{few-links}
use Rattle.ppp_trunk.proofs.trunk.Trunk.held.Goals as goal

pub overflow_add-held : goal.overflow_add-held
overflow_add-held c =
    let few = few-links _ c.self.invariant in
    omega (arith, few, c.held-held.ensures.limit, c.loop-i.invariant.most, c.loop-i-test.true, c.len-i-end.ensures, c.self.inside.links.ok.0)
