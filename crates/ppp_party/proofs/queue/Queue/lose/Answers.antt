use Rattle.std.proofs.Common.{◌≡◌, true, false, arith, refl}
use Rattle.ppp_party.proofs.QueueLemmas.{without-outside, without-place}
use Rattle.ppp_party.proofs.queue.Queue.lose.Goals as goal

pub returns-then-is_place-clause-value : goal.returns-then-is_place-clause-value
returns-then-is_place-clause-value c =
    let place = c.if-is_place.ensures.0 refl in
    rw (c.lose_at.ensures, c.from.ensures, ← c.self.view_is) (without-place c.args.place c.self.inside.frames.items (omega (arith, place.0)))

pub returns-else-is_place-clause-value : goal.returns-else-is_place-clause-value
returns-else-is_place-clause-value c =
    rw (← c.self.view_is) (without-outside c.args.place c.len-count.result c.self.inside.frames.items (omega arith) (λ both. let e : false ≡ true = c.if-is_place.ensures.1 both in cc))
