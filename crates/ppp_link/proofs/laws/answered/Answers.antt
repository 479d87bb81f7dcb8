use Rattle.ppp_link.proofs.AnswerLemmas.{answered-whole, answered-cut}
use Rattle.ppp_link.proofs.laws.answered.Goals as goal

pub returns-clause-whole : goal.returns-clause-whole
returns-clause-whole c = answered-whole

pub returns-clause-cut : goal.returns-clause-cut
returns-clause-cut c = answered-cut
