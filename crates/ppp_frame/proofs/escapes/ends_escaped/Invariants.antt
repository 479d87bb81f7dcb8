use Rattle.std.proofs.Common.{◌≡◌, drop}
use Rattle.ppp_frame.specs.Escapes.{escaped_after}
use Rattle.ppp_frame.proofs.escapes.ends_escaped.Given as goal

abbrev pub invariant-loop-octet : goal.invariant-loop-octet
invariant-loop-octet l = escaped_after l.behind (drop l.octet-index l.run) ≡ escaped_after l.escaped l.run
