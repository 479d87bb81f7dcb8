use Rattle.std.proofs.Common.{◌+◌, ◌∙◌, ap, arith, length, refl, subst, sym}
use Rattle.ppp_station.specs.Station.{IsStation, Station}
use Rattle.ppp_trunk.specs.Trunk.{IsOfLink}
use Rattle.ppp_trunk.specs.declared.station_out.TheConstants.{MOST_ENTRIES}
use Rattle.ppp_party.specs.Counted.{AreCounted}
use Rattle.ppp_party.specs.Happening.{happening_seen}
use Rattle.ppp_party.specs.Party.{Whole, station_of}
use Rattle.ppp_party.proofs.DoneLemmas.{happened, party_at, whole-stepped}
use Rattle.ppp_party.proofs.PartyLemmas.{posted-counted}
use Rattle.ppp_party.proofs.ResultLemmas.{on_ok_both, on_ok_map}
use Rattle.ppp_station.proofs.CountLemmas.{moves-count}
use Rattle.ppp_party.proofs.StationLemmas.{moves-whole}
use Rattle.ppp_party.proofs.party.Party.happen.Goals as goal

pub invariant_of-self : goal.invariant_of-self
invariant_of-self g c =
    let st = c.self.inside.station.station in
    let count = ap (λ (st : Station). length st.trunk.links) c.happen_at.ensures.station ∙ moves-count (happening_seen c.args.what) c.args.link st c.args.word in
    let of = subst (λ (w : Whole _). IsOfLink (length w.party.trunk.links) c.args.link) (sym c.self.view_is) c.requires.link in
    whole-stepped st c.happen_at.new.station.station c.self.inside.drawn c.self.inside.drawn c.self.inside.ordinals c.self.inside.ordinals c.self.inside.ledgers.items c.self.inside.incoming.items
    (subst IsStation (sym c.happen_at.ensures.station) (moves-whole c.args.what c.args.link st c.args.word of c.self.invariant.station)) count refl c.self.invariant

pub post-requires-clause-alike : goal.post-requires-clause-alike
post-requires-clause-alike g c =
    c.requires.alike
    ∙ ap (λ (w : Whole _). length w.party.trunk.links) (sym c.self.view_is)
    ∙ sym (ap (λ (st : Station). length st.trunk.links) c.happen_at.ensures.station ∙ moves-count (happening_seen c.args.what) c.args.link c.self.inside.station.station c.args.word)

pub returns-clause-done : goal.returns-clause-done
returns-clause-done g c =
    rw (← c.self.view_is) (on_ok_map c.post.result c.post.ensures.done (λ is.
    is ∙ happened (happening_seen c.args.what) c.args.link c.args.word c.self.inside.station.station c.happen_at.new.station.station c.self.inside.drawn c.self.inside.ordinals c.self.inside.ledgers.items c.self.inside.incoming.items
    c.args.other.now.party c.happen_at.new.out c.happen_at.ensures.station c.happen_at.ensures.out))

pub returns-clause-counted : goal.returns-clause-counted
returns-clause-counted g c n all =
    let old = subst (λ (w : Whole _). AreCounted n w.party) (sym c.self.view_is) all in
    let mid = party_at c.happen_at.new.station.station c.self.inside.drawn c.self.inside.ordinals c.self.inside.ledgers.items c.self.inside.incoming.items in
    on_ok_both c.post.result c.post.ensures.done (c.post.ensures.counted n old.ledgers) (λ is few.
    posted-counted (n + MOST_ENTRIES) 0 (record { station = station_of mid; out = c.happen_at.new.out }) c.post.new.self.party c.post.new.other.party mid c.args.other.now.party is few
    (let one = old.calls in omega (arith, one)))
