use Rattle.std.proofs.Common.{◌^◌, ◌∙◌, ap, length, refl, subst, sym}
use Rattle.std.proofs.lemmas.List.{length-map}
use Rattle.ppp_link.specs.Link.{Link}
use Rattle.ppp_station.specs.Station.{Station}
use Rattle.ppp_station.proofs.KeptLemmas.{stepped-station}
use Rattle.ppp_trunk.specs.Trunk.{link_ready}
use Rattle.ppp_party.specs.Counted.{AreCounted}
use Rattle.ppp_party.specs.Downs.{AllShortDowns}
use Rattle.ppp_party.specs.Party.{Ends, Party, station_of}
use Rattle.ppp_party.proofs.DoneLemmas.{party_at, rebooted, whole-stepped}
use Rattle.ppp_party.proofs.PartyLemmas.{cleared-counted, reboots-counted}
use Rattle.ppp_party.proofs.ResultLemmas.{on_ok_map}
use Rattle.ppp_party.proofs.party.Party.reboot.Goals as goal

pub invariant_of-self : goal.invariant_of-self
invariant_of-self g c =
    let st = c.self.inside.station.station in
    let count = ap (λ (st : Station). length st.trunk.links) c.event.ensures.does.station ∙ length-map st.trunk.links (λ (k : Link). link_ready k.tables) in
    whole-stepped st c.event.new.self.station c.self.inside.drawn c.self.inside.drawn c.self.inside.ordinals c.self.inside.ordinals c.self.inside.ledgers.items c.self.inside.incoming.items
    (stepped-station _ _ c.args.word st c.event.new.self.station _ tt c.self.invariant.station c.event.ensures.does) count refl c.self.invariant

pub go_down-requires-clause-few : goal.go_down-requires-clause-few
go_down-requires-clause-few g c = subst (λ p. AreCounted (2 ^ 61) p) (sym c.clear.ensures.party) (cleared-counted (2 ^ 61) c.args.other.now.party c.requires.few)

pub returns-clause-done : goal.returns-clause-done
returns-clause-done g c =
    rw (← c.self.view_is) (on_ok_map c.go_down.result c.go_down.ensures.done (λ is.
    rebooted c.args.word (party_at c.self.inside.station.station c.self.inside.drawn c.self.inside.ordinals c.self.inside.ledgers.items c.self.inside.incoming.items) c.args.other.now.party c.clear.new.self.party c.begin.new.self.party c.go_down.new.other.party c.go_down.new.self.party c.event.new.self.station
    c.event.ensures.does.station c.begin.ensures.party c.clear.ensures.party is))

pub returns-clause-counted : goal.returns-clause-counted
returns-clause-counted g c =
    on_ok_map c.go_down.result c.go_down.ensures.done (λ is.
    subst (λ (e : Ends). AreCounted 0 e.own)
    (sym (rebooted c.args.word (party_at c.self.inside.station.station c.self.inside.drawn c.self.inside.ordinals c.self.inside.ledgers.items c.self.inside.incoming.items) c.args.other.now.party c.clear.new.self.party c.begin.new.self.party c.go_down.new.other.party c.go_down.new.self.party c.event.new.self.station
    c.event.ensures.does.station c.begin.ensures.party c.clear.ensures.party is))
    (reboots-counted c.args.word (record { own = party_at c.self.inside.station.station c.self.inside.drawn c.self.inside.ordinals c.self.inside.ledgers.items c.self.inside.incoming.items; other = c.args.other.now.party })))

pub returns-clause-others : goal.returns-clause-others
returns-clause-others g c n all = c.go_down.ensures.counted n (subst (λ p. AreCounted n p) (sym c.clear.ensures.party) (cleared-counted n c.args.other.now.party all))

pub returns-clause-short : goal.returns-clause-short
returns-clause-short g c = on_ok_map c.go_down.result c.go_down.ensures.short (λ short. subst (λ (p : Party). AllShortDowns c.args.word (station_of p)) c.clear.ensures.party short)

pub returns-clause-whole : goal.returns-clause-whole
returns-clause-whole g c = c.go_down.ensures.whole_peer

pub returns-clause-whole_peer : goal.returns-clause-whole_peer
returns-clause-whole_peer g c = c.go_down.ensures.whole
