use Rattle.ppp_party.specs.Party.{unheard}
use Rattle.ppp_party.proofs.DoneLemmas.{whole-emptied}
use Rattle.ppp_party.proofs.party.Party.clear.Goals as goal

pub invariant_of-self : goal.invariant_of-self
invariant_of-self g c =
    whole-emptied unheard c.self.inside.station.station c.self.inside.drawn c.self.inside.drawn c.self.inside.ordinals c.self.inside.ordinals c.self.inside.ledgers.items c.forget.new.ledgers.items c.self.inside.incoming.items c.empty.new.incoming.items
    c.self.invariant c.self.invariant.ordinals c.forget.ensures c.empty.ensures

pub returns-clause-whole : goal.returns-clause-whole
returns-clause-whole g c =
    whole-emptied unheard c.self.inside.station.station c.self.inside.drawn c.self.inside.drawn c.self.inside.ordinals c.self.inside.ordinals c.self.inside.ledgers.items c.forget.new.ledgers.items c.self.inside.incoming.items c.empty.new.incoming.items
    c.self.invariant c.self.invariant.ordinals c.forget.ensures c.empty.ensures
