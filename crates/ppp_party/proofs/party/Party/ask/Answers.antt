use Rattle.std.proofs.Common.{◌+◌, ◌∙◌, ap, arith, length, refl, subst, sym}
use Rattle.ppp_bundle.specs.Bundles.{bundle_at}
use Rattle.ppp_station.specs.Station.{IsOfAsk, Station}
use Rattle.ppp_party.specs.Calls.{Calls, notes_ask}
use Rattle.ppp_trunk.specs.Trunk.{IsOfLink}
use Rattle.ppp_trunk.specs.declared.station_out.TheConstants.{MOST_ENTRIES}
use Rattle.ppp_party.specs.Counted.{AreCounted}
use Rattle.ppp_party.specs.Party.{Whole, station_of}
use Rattle.ppp_party.proofs.PartyLemmas.{posted-counted}
use Rattle.ppp_station.proofs.KeptLemmas.{stepped-station}
use Rattle.ppp_party.proofs.DoneLemmas.{asked-so, party_at, whole-stepped}
use Rattle.ppp_station.proofs.CountLemmas.{asks-count}
use Rattle.ppp_party.proofs.party.Party.ask.Goals as goal

pub invariant_of-self : goal.invariant_of-self
invariant_of-self g c =
    let st = c.self.inside.station.station in
    let count = ap (λ (st : Station). length st.trunk.links) c.event.ensures.does.station ∙ asks-count c.args.link c.args.request c.self.inside.station.station c.args.word in
    whole-stepped st c.event.new.self.station c.self.inside.drawn c.note_ask.new.drawn c.self.inside.ordinals c.note_ask.new.ordinals c.self.inside.ledgers.items c.self.inside.incoming.items
    (stepped-station _ _ c.args.word st c.event.new.self.station _ ((subst (λ (w : Whole _). IsOfLink (length w.party.trunk.links) c.args.link) (sym c.self.view_is) c.requires.link), subst (λ (w : Whole _). IsOfAsk c.args.request (length w.party.trunk.links)) (sym c.self.view_is) c.requires.asked) c.self.invariant.station c.event.ensures.does) count c.note_ask.ensures.count c.self.invariant

pub post-requires-clause-alike : goal.post-requires-clause-alike
post-requires-clause-alike g c =
    c.requires.alike
    ∙ ap (λ (w : Whole _). length w.party.trunk.links) (sym c.self.view_is)
    ∙ sym (ap (λ (st : Station). length st.trunk.links) c.event.ensures.does.station ∙ asks-count c.args.link c.args.request c.self.inside.station.station c.args.word)

pub returns-clause-done : goal.returns-clause-done
returns-clause-done g c =
    let st = c.self.inside.station.station in
    let calls : Calls = record { requests = st.requests; terms = st.terms; drawn = c.self.inside.drawn; ordinals = c.self.inside.ordinals } in
    let bundle = c.bundle_of-bundle.ensures.value ∙ ap (bundle_at c.args.link) c.bundles.ensures.value in
    rw (← c.self.view_is) (
    c.in_ok-post.ensures.done
    ∙ asked-so c.args.link c.args.word c.args.request st c.event.new.self.station c.self.inside.drawn c.note_ask.new.drawn c.self.inside.ordinals c.note_ask.new.ordinals c.self.inside.ledgers.items c.self.inside.incoming.items
    c.args.other.now.party c.event.new.out c.event.ensures.does.station c.event.ensures.does.sent
    (c.note_ask.ensures.calls calls refl refl ∙ ap (λ o. notes_ask o c.event.new.out.entries calls) bundle))

pub returns-clause-counted : goal.returns-clause-counted
returns-clause-counted g c n all =
    let old = subst (λ (w : Whole _). AreCounted n w.party) (sym c.self.view_is) all in
    let mid = party_at c.event.new.self.station c.note_ask.new.drawn c.note_ask.new.ordinals c.self.inside.ledgers.items c.self.inside.incoming.items in
    posted-counted (n + MOST_ENTRIES) (c.self.inside.drawn + 1) (record { station = station_of mid; out = c.event.new.out }) c.post.new.self.party c.post.new.other.party mid c.args.other.now.party
    c.in_ok-post.ensures.done (c.in_ok-post.ensures.counted n old.ledgers) (let one = old.calls in omega (arith, one, c.note_ask.ensures.few))
