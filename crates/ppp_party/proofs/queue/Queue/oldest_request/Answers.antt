use Rattle.std.proofs.Common.{add-one, arith}
use Rattle.std.proofs.lemmas.Option.{slice_get_read}
use Rattle.ppp_party.proofs.QueueLemmas.{requests-next}
use Rattle.ppp_party.proofs.queue.Queue.oldest_request.Goals as goal

pub loop-i-preserved : goal.loop-i-preserved
loop-i-preserved c = record {
  left = rw add-one (
      requests-next c.args.proto c.self.inside.frames.items c.loop-i.i c.index.result.now c.loop-i.oldest _ _ _
      (slice_get_read c.self.inside.frames.items _ c.loop-i.i c.index.result.now (omega arith) c.loop-i-test.true c.index.ensures)
      c.lesser-oldest.ensures c.request_mark.ensures c.loop-i.invariant.left
      );
}
