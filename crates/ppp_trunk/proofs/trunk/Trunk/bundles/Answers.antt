use Rattle.std.proofs.Common.{◌∙◌, ap, length}
use Rattle.ppp_trunk.specs.Trunk.{Trunk, limits_of}
use Rattle.ppp_trunk.proofs.TrunkPhaseLemmas.{its-limits}
use Rattle.ppp_trunk.proofs.trunk.Trunk.bundles.Goals as goal

pub returns-clause-limits : goal.returns-clause-limits
returns-clause-limits c = its-limits _ c.self.invariant ∙ ap (λ (s : Trunk). limits_of (length s.links)) c.self.view_is
