use Rattle.std.proofs.Common.{◌≡◌, ◌++◌, length}
use Rattle.ppp_options.specs.Rules.{initial}
use Rattle.ppp_options.proofs.OwnListLemmas.{firsts}
use Rattle.ppp_options.proofs.own_list.first_list.Given as goal

abbrev pub invariant-rows : goal.invariant-rows
invariant-rows g l =
    initial (g.T.OptionRules.rules l.table) l.word ≡ l.list ++ firsts (g.T.OptionRules.rules l.table) l.word l.left

abbrev pub decreases-rows : goal.decreases-rows
decreases-rows g l = length l.left
