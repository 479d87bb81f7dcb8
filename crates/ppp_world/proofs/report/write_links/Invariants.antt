use Rattle.std.proofs.Common.{◌≡◌, ◌++◌}
use Rattle.std.specs.String.{string_bytes}
use Rattle.ppp_world.specs.Agreement.{opened_on}
use Rattle.ppp_world.specs.Report.{lines_of}
use Rattle.ppp_world.proofs.report.write_links.Given as goal

abbrev pub invariant-loop-i : goal.invariant-loop-i
invariant-loop-i l =
    string_bytes l.report ≡ string_bytes l.initial.report ++ lines_of (λ m p. opened_on m p l.a.links l.b.links) l.i l.a.links l.b.links
