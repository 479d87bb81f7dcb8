use Rattle.std.proofs.Common.{◌+◌, ◌∙◌, ap, arith, length, refl, subst, sym}
use Rattle.ppp_station.specs.Station.{Station}
use Rattle.ppp_trunk.specs.Trunk.{IsOfLink}
use Rattle.ppp_trunk.specs.declared.station_out.TheConstants.{MOST_ENTRIES}
use Rattle.ppp_party.specs.Counted.{AreCounted}
use Rattle.ppp_party.specs.Party.{Whole, station_of}
use Rattle.ppp_party.proofs.PartyLemmas.{posted-counted}
use Rattle.ppp_party.proofs.ResultLemmas.{on_ok_both, on_ok_map}
use Rattle.ppp_station.proofs.KeptLemmas.{stepped-station}
use Rattle.ppp_party.proofs.DoneLemmas.{told-so, party_at, whole-stepped}
use Rattle.ppp_station.proofs.CountLemmas.{tells-count}
use Rattle.ppp_party.proofs.party.Party.tell.Goals as goal

pub invariant_of-self : goal.invariant_of-self
invariant_of-self g c =
    let st = c.self.inside.station.station in
    let count = ap (λ (st : Station). length st.trunk.links) c.event.ensures.does.station ∙ tells-count c.args.link c.args.status c.self.inside.station.station c.args.word in
    whole-stepped st c.event.new.self.station c.self.inside.drawn c.note_drawn.new.drawn c.self.inside.ordinals c.self.inside.ordinals c.self.inside.ledgers.items c.self.inside.incoming.items
    (stepped-station _ _ c.args.word st c.event.new.self.station _ (subst (λ (w : Whole _). IsOfLink (length w.party.trunk.links) c.args.link) (sym c.self.view_is) c.requires.link) c.self.invariant.station c.event.ensures.does) count refl c.self.invariant

pub post-requires-clause-alike : goal.post-requires-clause-alike
post-requires-clause-alike g c =
    c.requires.alike
    ∙ ap (λ (w : Whole _). length w.party.trunk.links) (sym c.self.view_is)
    ∙ sym (ap (λ (st : Station). length st.trunk.links) c.event.ensures.does.station ∙ tells-count c.args.link c.args.status c.self.inside.station.station c.args.word)

pub returns-clause-done : goal.returns-clause-done
returns-clause-done g c =
    rw (← c.self.view_is) (on_ok_map c.post.result c.post.ensures.done (λ is.
    is ∙ told-so c.args.link c.args.status c.args.word c.self.inside.station.station c.event.new.self.station c.self.inside.drawn c.note_drawn.new.drawn c.self.inside.ordinals c.self.inside.ledgers.items c.self.inside.incoming.items c.args.other.now.party c.event.new.out c.event.ensures.does.station c.event.ensures.does.sent
    (c.note_drawn.ensures.calls (record { requests = c.self.inside.station.station.requests; terms = c.self.inside.station.station.terms; drawn = c.self.inside.drawn; ordinals = c.self.inside.ordinals }) refl)))

pub returns-clause-counted : goal.returns-clause-counted
returns-clause-counted g c n all =
    let old = subst (λ (w : Whole _). AreCounted n w.party) (sym c.self.view_is) all in
    let mid = party_at c.event.new.self.station c.note_drawn.new.drawn c.self.inside.ordinals c.self.inside.ledgers.items c.self.inside.incoming.items in
    on_ok_both c.post.result c.post.ensures.done (c.post.ensures.counted n old.ledgers) (λ is few.
    posted-counted (n + MOST_ENTRIES) (c.self.inside.drawn + 1) (record { station = station_of mid; out = c.event.new.out }) c.post.new.self.party c.post.new.other.party mid c.args.other.now.party is few
    (let one = old.calls in omega (arith, one, c.note_drawn.ensures.few)))
