use Rattle.std.proofs.Common.{arith}
use Rattle.std.proofs.lemmas.Bool.Decides.{nat_tests}
use Rattle.ppp_options.specs.Number.{pick}
use Rattle.ppp_options.proofs.number.pick.Goals as goal

pub returns-then-is_free : goal.returns-then-is_free
unfolding pick
returns-then-is_free c = grind (arith, nat_tests)

pub returns-then-is_free-2 : goal.returns-then-is_free-2
unfolding pick
returns-then-is_free-2 c = grind (arith, nat_tests)

pub returns-else-is_free-2 : goal.returns-else-is_free-2
unfolding pick
returns-else-is_free-2 c = grind (arith, nat_tests)
