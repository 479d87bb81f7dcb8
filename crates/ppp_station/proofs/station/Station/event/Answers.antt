use Rattle.std.proofs.Common.{length, subst, sym}
use Rattle.ppp_trunk.specs.Moves.{AreLinked}
use Rattle.ppp_trunk.specs.StationOut.{Out}
use Rattle.ppp_station.specs.Station.{IsOfLinks, Whole}
use Rattle.ppp_station.proofs.CountLemmas.{steps-count}
use Rattle.ppp_station.proofs.KeptLemmas.{stepped-linked, stepped-station}
use Rattle.ppp_station.proofs.station.Station.event.Goals as goal

pub invariant_of-self : goal.invariant_of-self
invariant_of-self g c =
    stepped-station _ c.args.ev c.args.word _ _ _ (subst (λ (w : Whole g.row.F.Denot). IsOfLinks c.args.ev (length w.station.trunk.links)) (sym c.self.view_is) c.requires) c.self.invariant c.step-used.ensures.steps

pub returns-clause-linked : goal.returns-clause-linked
returns-clause-linked g c =
    subst (λ (o : Out). AreLinked (length c.step-used.new.self.trunk.links) o.entries) (sym c.set_used.ensures.out)
    (stepped-linked _ c.args.ev c.args.word _ _ _ (subst (λ (w : Whole g.row.F.Denot). IsOfLinks c.args.ev (length w.station.trunk.links)) (sym c.self.view_is) c.requires) c.self.invariant c.step-used.ensures.steps)

pub returns-clause-count : goal.returns-clause-count
returns-clause-count g c = rw (← c.self.view_is) (steps-count _ c.args.ev c.args.word _ _ _ c.step-used.ensures.steps)
