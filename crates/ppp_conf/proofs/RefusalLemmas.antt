-- Facts on refusals.
use Rattle.std.proofs.Common.{ℕ, List}
use Rattle.ppp_conf.specs.declared.conf_fault.ConfFault.{ConfFault}
use Rattle.ppp_conf.specs.declared.conf_fault.ConfFault.TheVariants.{Memory, Refused}
use Rattle.ppp_conf.specs.declared.conf_why.ConfWhy.{ConfWhy}
use Rattle.ppp_conf.specs.Refusal.{refuse, IsRefusal}

-- what is refused with this fault, whatever it is that isn't read
pub IsRefusal-same : (A B : Type 0) (path : List ℕ) (why : ConfWhy) (fault : ConfFault) → IsRefusal (refuse {A = A} path why) fault → IsRefusal (refuse {A = B} path why) fault
IsRefusal-same A B path why Memory h = tt
IsRefusal-same A B path why (Refused named cause) h = cc h
