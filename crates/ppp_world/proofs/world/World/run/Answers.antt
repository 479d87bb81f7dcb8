use Rattle.std.proofs.Common.{◌∙◌, ap, length, sym}
use Rattle.ppp_party.specs.Party.{Party}
use Rattle.ppp_station.specs.Station.{Station}
use Rattle.ppp_world.specs.Step.{step_of}
use Rattle.ppp_world.specs.World.{Whole}
use Rattle.ppp_world.proofs.WorldLemmas.{settles-event, steps-event}
use Rattle.ppp_world.proofs.world.World.run.Goals as goal

pub returns-in-Some-clause-done : goal.returns-in-Some-clause-done
returns-in-Some-clause-done g c = settles-event _ c.in-Some.count c.args.event.now c.args.self.now.world c.settle.new.self.world c.settle.new.self.world.halt (sym c.settling.ensures ∙ c.in-Some.is) c.settle.ensures.done

pub returns-in-None-clause-done : goal.returns-in-None-clause-done
returns-in-None-clause-done g c =
    let links =
    c.links-links.ensures.count ∙ ap (λ (st : Station). length st.trunk.links) c.station.ensures.station ∙ ap (λ (p : Party). length p.trunk.links) c.a.ensures.party
    ∙ ap (λ (w : Whole g.row.F.Denot g.row.G.Denot). length w.world.ends.own.trunk.links) c.self.view_is in
    let step = c.of.ensures.value ∙ ap (λ n. step_of n c.args.event.now) links in
    steps-event _ c.args.event.now c.of.result c.args.self.now.world c.take.new.self.world c.take.new.self.world.halt (sym c.settling.ensures ∙ c.in-None.is) step c.take.ensures.done
