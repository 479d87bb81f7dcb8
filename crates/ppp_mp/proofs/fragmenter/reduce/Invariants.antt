use Rattle.std.proofs.Common.{◌≡◌, ◌%◌, ◌++◌, map, take, drop}
use Rattle.ppp_mp.proofs.fragmenter.reduce.Given as goal

abbrev pub invariant-loop-n : goal.invariant-loop-n
invariant-loop-n l = l.numbers ≡ map (λ n. n % l.space) (take l.n-index l.initial.numbers) ++ drop l.n-index l.initial.numbers
