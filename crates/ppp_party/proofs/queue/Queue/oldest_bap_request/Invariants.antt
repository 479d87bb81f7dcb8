use Rattle.std.proofs.Common.{◌≡◌, drop}
use Rattle.ppp_duet.specs.Span.{least}
use Rattle.ppp_party.specs.BapSpans.{bap_requests}
use Rattle.ppp_party.proofs.queue.Queue.oldest_bap_request.Given as goal

abbrev pub invariant-loop-i : goal.invariant-loop-i
invariant-loop-i l = record {
  left : least l.oldest (bap_requests (drop l.i l.self-inside.frames.items)) ≡ least l.first (bap_requests l.self-inside.frames.items);
}
