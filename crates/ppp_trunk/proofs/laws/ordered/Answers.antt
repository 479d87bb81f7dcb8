use Rattle.ppp_trunk.proofs.MovesLemmas.{all-framed, all-linked, counts, moves-at}
use Rattle.ppp_trunk.proofs.laws.ordered.Goals as goal

pub returns-clause-moved : goal.returns-clause-moved
returns-clause-moved c = moves-at

pub returns-clause-framed : goal.returns-clause-framed
returns-clause-framed c = all-framed

pub returns-clause-count : goal.returns-clause-count
returns-clause-count c = counts

pub returns-clause-linked : goal.returns-clause-linked
returns-clause-linked c = all-linked
