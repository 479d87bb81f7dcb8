use Rattle.ppp_bap.proofs.DueLemmas.{few-due, links-due}
use Rattle.ppp_bap.proofs.laws.due.Goals as goal

pub returns-clause-links : goal.returns-clause-links
returns-clause-links c = links-due

pub returns-clause-few : goal.returns-clause-few
returns-clause-few c = few-due
