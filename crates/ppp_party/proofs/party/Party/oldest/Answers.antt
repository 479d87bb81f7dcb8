use Rattle.std.proofs.Common.{◌-◌, ap, arith, length, sym, ◌∙◌}
use Rattle.ppp_party.specs.Party.{Whole}
use Rattle.ppp_party.specs.Spans.{sent_on}
use Rattle.ppp_party.proofs.DoneLemmas.{oldest, party_at}
use Rattle.ppp_party.proofs.party.Party.oldest.Goals as goal

pub returns : goal.returns
returns g c =
    let own = party_at c.self.inside.station.station c.self.inside.drawn c.self.inside.ordinals c.self.inside.ledgers.items c.self.inside.incoming.items in
    let other = party_at c.other.inside.station.station c.other.inside.drawn c.other.inside.ordinals c.other.inside.ledgers.items c.other.inside.incoming.items in
    rw (← c.self.view_is, ← c.other.view_is) (
    oldest c.args.link (c.from-i.result - 1) c.sent.result c.args.proto own other c.index.result.now c.index-2.result.now c.oldest_answer-answered.result c.oldest_request.result
    (ap (λ n. n - 1) c.from-i.ensures) c.requires.own.0
    (omega (arith, c.requires.own.1, ap (λ (w : Whole _). length w.party.trunk.links) c.self.view_is))
    (omega (arith, c.requires.other.1, ap (λ (w : Whole _). length w.party.trunk.links) c.other.view_is))
    c.self.invariant c.other.invariant c.index.ensures c.index-2.ensures (c.sent.ensures ∙ ap (λ (w : Whole _). sent_on c.args.link c.args.proto w.party) (sym c.self.view_is))
    c.oldest_answer-answered.ensures c.oldest_request.ensures)
