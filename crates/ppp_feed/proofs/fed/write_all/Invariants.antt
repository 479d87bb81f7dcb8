use Rattle.std.proofs.Common.{◌≡◌, ◌++◌, take}
use Rattle.std.specs.String.{string_bytes}
use Rattle.ppp_feed.specs.EntryLine.{entry_lines}
use Rattle.ppp_feed.proofs.fed.write_all.Given as goal

abbrev pub invariant-loop-i : goal.invariant-loop-i
invariant-loop-i l = string_bytes l.text ≡ string_bytes l.initial.text ++ entry_lines (take l.i l.out.entries)
