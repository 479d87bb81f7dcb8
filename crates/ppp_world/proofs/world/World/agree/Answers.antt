use Rattle.std.proofs.Common.{sym, ap, ◌∙◌}
use Rattle.ppp_party.specs.Party.{Party}
use Rattle.ppp_station.specs.Station.{Station}
use Rattle.ppp_world.specs.Agreement.{agree_on, opened_on}
use Rattle.ppp_world.specs.World.{Whole}
use Rattle.ppp_world.proofs.AgreementLemmas.{told-opened}
use Rattle.ppp_world.proofs.SoundLemmas.{agree-sound}
use Rattle.ppp_world.proofs.WorldLemmas.{sound_unless}
use Rattle.ppp_world.proofs.world.World.agree.Goals as goal

pub returns-clause-value : goal.returns-clause-value
returns-clause-value g c =
    let inside = c.self.inside in
    let e = inside.ends.ends in
    let l = c.args.link in
    let p = c.args.proto in
    let sound = sound_unless inside.halt e inside.steps c.self.invariant (ap (λ (w : Whole g.row.F.Denot g.row.G.Denot). w.world.halt) c.self.view_is ∙ c.requires) in
    let told = told-opened l p e (agree-sound e inside.steps sound l p).told in
    let own = ap (λ t. t.links) c.trunk.ensures ∙ ap (λ (st : Station). st.trunk.links) c.station-a.ensures.station ∙ ap (λ (p : Party). p.trunk.links) c.a.ensures.party in
    let other = ap (λ t. t.links) c.trunk-2.ensures ∙ ap (λ (st : Station). st.trunk.links) c.station-b.ensures.station ∙ ap (λ (p : Party). p.trunk.links) c.b.ensures.party in
    c.agree.ensures ∙ ap (λ ks. opened_on l p ks c.trunk-2.result.now.links) own ∙ ap (λ ks. opened_on l p e.own.trunk.links ks) other ∙ sym told
    ∙ ap (λ (w : Whole g.row.F.Denot g.row.G.Denot). agree_on l p w.world.ends) c.self.view_is
