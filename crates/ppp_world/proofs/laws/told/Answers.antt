use Rattle.ppp_world.proofs.AgreementLemmas.{passes-if, passes-only}
use Rattle.ppp_world.proofs.laws.told.Goals as goal

pub returns : goal.returns
returns c = record { passes = λ p rs ts d. (passes-only p rs ts d, passes-if p rs ts d) }
