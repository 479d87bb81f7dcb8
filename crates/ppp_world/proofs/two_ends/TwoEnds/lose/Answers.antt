use Rattle.ppp_script.specs.declared.end.End.TheVariants.{A, B}
use Rattle.ppp_world.proofs.CountedLemmas.{counts-lost, counts-lost-other}
use Rattle.ppp_world.proofs.MovedLemmas.{moved-loses}
use Rattle.ppp_world.proofs.two_ends.TwoEnds.lose.Goals as goal

pub returns-in-A-clause-done : goal.returns-in-A-clause-done
returns-in-A-clause-done g c k = rw (c.in-A.is, ← c.self.view_is) (moved-loses _ k A _ _ _ _ (c.lose.ensures.value c.self.inside.b.party))

pub returns-in-A-clause-counts : goal.returns-in-A-clause-counts
returns-in-A-clause-counts g c = rw (← c.self.view_is) (counts-lost _ _ _ _ (c.lose.ensures.value c.self.inside.b.party))

pub returns-in-B-clause-done : goal.returns-in-B-clause-done
returns-in-B-clause-done g c k = rw (c.in-B.is, ← c.self.view_is) (moved-loses _ k B _ _ _ _ (c.lose-in-B.ensures.value c.self.inside.a.party))

pub returns-in-B-clause-counts : goal.returns-in-B-clause-counts
returns-in-B-clause-counts g c = rw (← c.self.view_is) (counts-lost-other _ _ _ _ (c.lose-in-B.ensures.value c.self.inside.a.party))
