use Rattle.std.proofs.Common.{subst, sym, ap, arith, length}
use Rattle.ppp_bundle.specs.Bundles.{Bundles}
use Rattle.ppp_bundle.specs.declared.limits.Limits.{Limits}
use Rattle.ppp_trunk.specs.Phases.{IsTrunk}
use Rattle.ppp_trunk.specs.Trunk.{Trunk}
use Rattle.ppp_trunk.proofs.MarkLemmas.{trunk-marked}
use Rattle.ppp_trunk.proofs.TrunkPhaseLemmas.{its-limits}
use Rattle.ppp_trunk.proofs.trunk.Trunk.mark.Goals as goal

pub mark-requires-clause-link : goal.mark-requires-clause-link
mark-requires-clause-link c =
    let limits = ap (λ (n : Limits). n.links) (its-limits _ c.self.invariant) in
    let seen = ap (λ (s : Trunk). length s.links) c.self.view_is in
    (c.requires.link.0, omega (arith, c.requires.link.1, limits, seen))

pub invariant_of-self : goal.invariant_of-self
invariant_of-self c =
    subst (λ (b : Bundles). IsTrunk (record { links = c.self.inside.links.items; bundles = b })) (sym c.mark.ensures)
    (trunk-marked c.args.link _ c.self.invariant)
