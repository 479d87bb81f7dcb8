use Rattle.std.proofs.Common.{add-one, arith}
use Rattle.std.proofs.lemmas.Option.{slice_get_read}
use Rattle.ppp_party.specs.BapSpans.{bap_answer}
use Rattle.ppp_party.proofs.QueueLemmas.{marks-next}
use Rattle.ppp_party.proofs.queue.Queue.oldest_bap_answer.Goals as goal

pub loop-i-preserved : goal.loop-i-preserved
loop-i-preserved c = record {
  left = rw add-one (
      marks-next bap_answer c.self.inside.frames.items c.loop-i.i c.index.result.now c.loop-i.oldest _ _ _
      (slice_get_read c.self.inside.frames.items _ c.loop-i.i c.index.result.now (omega arith) c.loop-i-test.true c.index.ensures)
      c.lesser-oldest.ensures c.bap_answer_mark.ensures c.loop-i.invariant.left
      );
}
