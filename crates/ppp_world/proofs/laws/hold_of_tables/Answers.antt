use Rattle.ppp_world.proofs.AgreementLemmas.{tables-agreement, tables-reopening}
use Rattle.ppp_world.proofs.laws.hold_of_tables.Goals as goal

pub returns-clause-agreement : goal.returns-clause-agreement
returns-clause-agreement c = tables-agreement

pub returns-clause-reopening : goal.returns-clause-reopening
returns-clause-reopening c = tables-reopening
