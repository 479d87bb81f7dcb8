use Rattle.ppp_trunk.proofs.TrunkPhaseLemmas.{begun-trunk, begun-anew, kept-trunk, off-trunk}
use Rattle.ppp_trunk.proofs.laws.phases.Goals as goal

pub returns-clause-begun : goal.returns-clause-begun
returns-clause-begun c = begun-trunk

pub returns-clause-anew : goal.returns-clause-anew
returns-clause-anew c = begun-anew

pub returns-clause-kept : goal.returns-clause-kept
returns-clause-kept c = kept-trunk

pub returns-clause-off : goal.returns-clause-off
returns-clause-off c = off-trunk
