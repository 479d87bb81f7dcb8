use Rattle.ppp_auto.proofs.ListLemmas.{same_list_is}
use Rattle.ppp_auto.proofs.taken.is_same_list.Goals as goal

pub returns : goal.returns
returns c = same_list_is c.same_as.result c.args.own.now c.args.options.now c.same_as.ensures
