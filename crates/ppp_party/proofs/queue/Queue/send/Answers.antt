use Rattle.std.proofs.Common.{◌<◌, ◌∙◌, ◌∷◌, ◌++◌, [], length, ap, arith}
use Rattle.ppp_party.specs.Frame.{Frame}
use Rattle.ppp_party.proofs.QueueLemmas.{full, roomy}
use Rattle.ppp_party.proofs.ResultLemmas.{on_ok_map}
use Rattle.ppp_party.proofs.queue.Queue.send.Goals as goal

pub returns-then-len-ge-ROOM-clause-ok : goal.returns-then-len-ge-ROOM-clause-ok
returns-then-len-ge-ROOM-clause-ok c = rw (← c.self.view_is) (full _ _ c.self.invariant (omega arith))

pub returns-clause-ok : goal.returns-clause-ok
returns-clause-ok c =
    let few : length c.self.inside.frames.items < 1024 = omega arith in
    rw (← c.self.view_is) (
    on_ok_map c.put.result c.put.ensures.ok (λ is.
    is ∙ ap (λ (f : Frame). c.self.inside.frames.items ++ f ∷ []) c.in_ok-frame.ensures ∙ roomy c.self.inside.frames.items _ few))
