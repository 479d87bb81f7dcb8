use Rattle.ppp_bap.proofs.GrantLemmas.{call-granted, callback-granted, drop-granted}
use Rattle.ppp_bap.proofs.laws.granted.Goals as goal

pub returns-clause-call : goal.returns-clause-call
returns-clause-call c = call-granted

pub returns-clause-callback : goal.returns-clause-callback
returns-clause-callback c = callback-granted

pub returns-clause-drop : goal.returns-clause-drop
returns-clause-drop c = drop-granted
