use Rattle.std.proofs.Common.{◌≡◌, ◌++◌}
use Rattle.std.specs.String.{string_bytes}
use Rattle.ppp_world.specs.BundleLines.{lines_to}
use Rattle.ppp_world.proofs.bundle_lines.write_bundles.Given as goal

abbrev pub invariant-loop-i : goal.invariant-loop-i
invariant-loop-i g l =
    string_bytes l.report ≡ string_bytes l.initial.report ++ lines_to l.end l.i l.station.station.trunk.bundles l.station.station.requests
