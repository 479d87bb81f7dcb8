use Rattle.ppp_conf.proofs.RangesLemmas.{config-in_range}
use Rattle.ppp_conf.proofs.law.read_in_range.Goals as goal

pub returns : goal.returns
returns c = config-in_range
