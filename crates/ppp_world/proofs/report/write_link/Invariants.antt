use Rattle.std.proofs.Common.{◌≡◌, ◌++◌, take}
use Rattle.std.specs.List.{flat_map}
use Rattle.std.specs.String.{string_bytes}
use Rattle.ppp_world.specs.Agreement.{opened_on}
use Rattle.ppp_world.specs.Outstanding.{protocols}
use Rattle.ppp_world.specs.Report.{line_on}
use Rattle.ppp_world.proofs.report.write_link.Given as goal

abbrev pub invariant-loop-i : goal.invariant-loop-i
invariant-loop-i l =
    string_bytes l.report ≡ string_bytes l.initial.report ++ flat_map (line_on (λ m p. opened_on m p l.a.links l.b.links) l.link l.a.links l.b.links) (take l.i protocols)
