use Rattle.std.proofs.Common.{ap}
use Rattle.ppp_auto.specs.Taken.{Taken}
use Rattle.ppp_auto.proofs.taken.adapting.Goals as goal

pub returns : goal.returns
returns c = λ own. ap (λ (t : Taken). record t { adapted = c.args.list }) (c.plain-taken.ensures own)
