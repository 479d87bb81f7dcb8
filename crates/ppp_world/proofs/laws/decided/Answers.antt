use Rattle.ppp_world.proofs.ReplayLemmas.{one-report, one-refusal}
use Rattle.ppp_world.proofs.laws.decided.Goals as goal

pub returns-clause-report : goal.returns-clause-report
returns-clause-report c = one-report

pub returns-clause-refused : goal.returns-clause-refused
returns-clause-refused c = one-refusal
