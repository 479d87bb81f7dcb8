use Rattle.ppp_trunk.proofs.CapLemmas.{begun-caps, kept-caps}
use Rattle.ppp_trunk.proofs.laws.caps.Goals as goal

pub returns-clause-begun : goal.returns-clause-begun
returns-clause-begun c = begun-caps

pub returns-clause-kept : goal.returns-clause-kept
returns-clause-kept c = kept-caps
