use Rattle.std.proofs.Common.{◌∙◌, add-one, ap, arith, get_or, length, sym}
use Rattle.ppp_party.specs.BapSpans.{bap_oldest_to, oldest_seen, older}
use Rattle.ppp_party.specs.Party.{Whole}
use Rattle.ppp_party.proofs.DoneLemmas.{oldest-next, party_at}
use Rattle.ppp_party.proofs.party.Party.oldest_call.Goals as goal

pub loop-i-preserved : goal.loop-i-preserved
loop-i-preserved g c =
    let own = party_at c.self.inside.station.station c.self.inside.drawn c.self.inside.ordinals c.self.inside.ledgers.items c.self.inside.incoming.items in
    let other = party_at c.other.inside.station.station c.other.inside.drawn c.other.inside.ordinals c.other.inside.ledgers.items c.other.inside.incoming.items in
    let alike = ap (λ (w : Whole _). length w.party.trunk.links) c.other.view_is ∙ c.requires ∙ ap (λ (w : Whole _). length w.party.trunk.links) (sym c.self.view_is) in
    let before = c.loop-i.invariant.is ∙ (λ i. bap_oldest_to c.loop-i.i (record { own = (sym c.self.view_is i).party; other = (sym c.other.view_is i).party })) in
    record {
      is = rw (add-one, ← c.self.view_is, ← c.other.view_is) (
          c.older-oldest.ensures
          ∙ ap (older (oldest_seen c.loop-i.oldest) c.oldest_bap_request-mark.result) (add-one c.loop-i.i)
          ∙ oldest-next c.loop-i.i own other c.index.result.now c.index-in-loop-i.result.now c.oldest_bap_answer-answered.result c.oldest_bap_request-mark.result (oldest_seen c.loop-i.oldest)
          (omega (arith, c.loop-i-test.true, c.links-i-end.ensures.count)) alike c.self.invariant c.other.invariant
          (c.index.ensures ∙ ap (λ i. get_or c.self.inside.incoming.items i c.index.result.now) c.from.ensures)
          (c.index-in-loop-i.ensures ∙ ap (λ i. get_or c.other.inside.incoming.items i c.index-in-loop-i.result.now) c.from-in-loop-i.ensures)
          c.oldest_bap_answer-answered.ensures c.oldest_bap_request-mark.ensures before
          );
    }
