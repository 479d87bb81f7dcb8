use Rattle.ppp_bundle.proofs.ControlLemmas.{control-joined, joined-linked, linked-control}
use Rattle.ppp_bundle.proofs.laws.control_joined.Goals as goal

pub returns-clause-joined : goal.returns-clause-joined
returns-clause-joined c = λ b l t h is. control-joined b l t h.places is

pub returns-clause-linked : goal.returns-clause-linked
returns-clause-linked c = linked-control

pub returns-clause-found : goal.returns-clause-found
returns-clause-found c = joined-linked
