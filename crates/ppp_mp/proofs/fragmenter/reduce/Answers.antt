use Rattle.std.proofs.Common.{◌%◌, get_or, arith}
use Rattle.std.proofs.lemmas.List.{get_or_default}
use Rattle.std.proofs.lemmas.List.Edits.{map_over_more}
use Rattle.ppp_mp.proofs.fragmenter.reduce.Goals as goal

pub loop-n-preserved : goal.loop-n-preserved
loop-n-preserved c =
    map_over_more (λ n. n % c.args.space) c.args.numbers.now c.loop-n.numbers c.loop-n.n-index (get_or c.loop-n.numbers c.loop-n.n-index 0) (omega arith)
    c.loop-n.invariant (get_or_default c.loop-n.numbers c.loop-n.n-index 0 (get_or c.loop-n.numbers c.loop-n.n-index 0) (omega arith))
