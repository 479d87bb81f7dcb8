use Rattle.ppp_bundle.proofs.NumbersLemmas.{numbers-joined, numbers-kept-last, numbers-of-others}
use Rattle.ppp_bundle.proofs.laws.numbers_kept.Goals as goal

pub returns-clause-last : goal.returns-clause-last
returns-clause-last c = numbers-kept-last

pub returns-clause-others : goal.returns-clause-others
returns-clause-others c = numbers-of-others

pub returns-clause-joins : goal.returns-clause-joins
returns-clause-joins c = numbers-joined
