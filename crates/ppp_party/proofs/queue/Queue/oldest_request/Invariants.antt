use Rattle.std.proofs.Common.{◌≡◌, drop}
use Rattle.ppp_duet.specs.Span.{requests, least}
use Rattle.ppp_party.specs.Frame.{only}
use Rattle.ppp_party.proofs.queue.Queue.oldest_request.Given as goal

abbrev pub invariant-loop-i : goal.invariant-loop-i
invariant-loop-i l = record {
  left : least l.oldest (requests (only l.proto (drop l.i l.self-inside.frames.items))) ≡ least l.first (requests (only l.proto l.self-inside.frames.items));
}
