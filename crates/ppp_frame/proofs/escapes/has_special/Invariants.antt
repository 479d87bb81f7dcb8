use Rattle.std.proofs.Common.{◌≡◌, ◌||◌, drop}
use Rattle.std.specs.List.{list_any}
use Rattle.ppp_frame.specs.Escapes.{is_special}
use Rattle.ppp_frame.proofs.escapes.has_special.Given as goal

abbrev pub invariant-loop-octet : goal.invariant-loop-octet
invariant-loop-octet l = (l.found || list_any (is_special l.low) (drop l.octet-index l.block)) ≡ list_any (is_special l.low) l.block
