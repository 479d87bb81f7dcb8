use Rattle.std.specs.Fmt.{HasWritten, IsPlainFormatter}
use Rattle.ppp_world.specs.BundleLines.{links_to}
use Rattle.ppp_world.proofs.bundle_lines.LinkSetDisplay.fmt.Given as goal

abbrev pub invariant-loop-i : goal.invariant-loop-i
invariant-loop-i g l = IsPlainFormatter l.initial.f → HasWritten g.W.Write.write_str_gives l.initial.f (links_to l.i l.self.set) l.f
