use Rattle.ppp_party.proofs.RebootLemmas.{begins-came, reboots-came}
use Rattle.ppp_party.proofs.laws.anew.Goals as goal

pub returns-clause-begins : goal.returns-clause-begins
returns-clause-begins c = begins-came

pub returns-clause-reboots : goal.returns-clause-reboots
returns-clause-reboots c = reboots-came
