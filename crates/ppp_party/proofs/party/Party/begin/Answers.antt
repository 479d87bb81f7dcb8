use Rattle.std.proofs.Common.{refl}
use Rattle.ppp_party.specs.Ledger.{ledgers_begun}
use Rattle.ppp_party.proofs.DoneLemmas.{begun-emptied, whole-emptied}
use Rattle.ppp_party.proofs.party.Party.begin.Goals as goal

pub invariant_of-self : goal.invariant_of-self
invariant_of-self g c =
    whole-emptied (λ gs. ledgers_begun) c.self.inside.station.station c.self.inside.drawn 0 c.self.inside.ordinals _ c.self.inside.ledgers.items c.begin.new.ledgers.items c.self.inside.incoming.items c.empty.new.incoming.items
    c.self.invariant refl c.begin.ensures c.empty.ensures

pub returns-clause-party : goal.returns-clause-party
returns-clause-party g c =
    rw (← c.self.view_is) (begun-emptied c.self.inside.station.station c.self.inside.drawn c.self.inside.ordinals c.self.inside.ledgers.items c.begin.new.ledgers.items c.self.inside.incoming.items c.empty.new.incoming.items
    c.self.invariant c.begin.ensures c.empty.ensures)

pub returns-clause-whole : goal.returns-clause-whole
returns-clause-whole g c =
    whole-emptied (λ gs. ledgers_begun) c.self.inside.station.station c.self.inside.drawn 0 c.self.inside.ordinals _ c.self.inside.ledgers.items c.begin.new.ledgers.items c.self.inside.incoming.items c.empty.new.incoming.items
    c.self.invariant refl c.begin.ensures c.empty.ensures
