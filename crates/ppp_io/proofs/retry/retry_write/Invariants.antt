-- an interrupted write takes nothing
use Rattle.std.specs.Io.KnownBytes.{Keeps}
use Rattle.ppp_io.proofs.retry.retry_write.Given as goal

abbrev pub invariant-tries : goal.invariant-tries
invariant-tries g l = Keeps (g.W.Write.contents l.initial.writer) (g.W.Write.contents l.writer)
