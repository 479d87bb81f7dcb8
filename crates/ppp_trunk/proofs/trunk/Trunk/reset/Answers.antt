use Rattle.std.proofs.Common.{sym, subst}
use Rattle.ppp_trunk.specs.Phases.{IsTrunk}
use Rattle.ppp_trunk.proofs.TrunkPhaseLemmas.{begun-anew, begun-trunk}
use Rattle.ppp_trunk.proofs.trunk.Trunk.reset.Goals as goal

pub invariant_of-self : goal.invariant_of-self
invariant_of-self c =
    subst IsTrunk (λ i. record { links = sym c.reset_links.ensures i; bundles = sym c.reset.ensures i })
    (begun-trunk _ (begun-anew (record { links = c.self.inside.links.items; bundles = c.self.inside.bundles }) c.self.invariant))
