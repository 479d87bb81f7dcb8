use Rattle.std.proofs.Common.{arith}
use Rattle.ppp_options.proofs.OwnListLemmas.{has_kind-some, has_kind-none}
use Rattle.ppp_options.proofs.own_list.has_option.Goals as goal

pub returns : goal.returns
returns c = grind (arith, has_kind-some, has_kind-none)
