use Rattle.std.proofs.Common.{◌-◌, ap, arith, length}
use Rattle.ppp_party.specs.Party.{Whole}
use Rattle.ppp_party.proofs.DoneLemmas.{lost}
use Rattle.ppp_party.proofs.party.Party.lose.Goals as goal

pub returns-clause-value : goal.returns-clause-value
returns-clause-value g c o =
    rw (← c.self.view_is) (
    lost c.self.inside.station.station c.self.inside.drawn c.self.inside.ordinals c.self.inside.ledgers.items c.self.inside.incoming.items c.args.link (c.from.result - 1) c.index_mut.result.now
    (ap (λ n. n - 1) c.from.ensures) c.requires.0 (omega (arith, c.requires.1, ap (λ (w : Whole _). length w.party.trunk.links) c.self.view_is)) c.self.invariant c.index_mut.ensures.value c.args.place o c.lose.new.self c.lose.ensures.value)
