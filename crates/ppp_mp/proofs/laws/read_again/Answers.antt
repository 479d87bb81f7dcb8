use Rattle.ppp_mp.proofs.FragmentsLemmas.{cut-packets}
use Rattle.ppp_mp.proofs.HeaderLemmas.{read-again}
use Rattle.ppp_mp.proofs.laws.read_again.Goals as goal

pub returns-clause-header : goal.returns-clause-header
returns-clause-header c = read-again

pub returns-clause-whole : goal.returns-clause-whole
returns-clause-whole c = cut-packets
