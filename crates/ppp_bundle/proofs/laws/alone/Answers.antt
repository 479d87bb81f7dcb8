use Rattle.ppp_bundle.proofs.MirrorLemmas.{joined-other, place-other}
use Rattle.ppp_bundle.proofs.laws.alone.Goals as goal

pub returns-clause-joins : goal.returns-clause-joins
returns-clause-joins c = joined-other

pub returns-clause-leaves : goal.returns-clause-leaves
returns-clause-leaves c = λ l m t low high other. place-other l m _ t low high other

pub returns-clause-marks : goal.returns-clause-marks
returns-clause-marks c = λ l m t low high other. place-other l m _ t low high other
