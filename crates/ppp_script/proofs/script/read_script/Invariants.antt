use Rattle.std.proofs.Common.{◌≡◌, ◌+◌, ◌≤◌, length}
use Rattle.std.specs.Prelude.{All}
use Rattle.ppp_text.specs.Lines.{lines_of}
use Rattle.ppp_script.specs.Script.{script_from, events_of}
use Rattle.ppp_script.proofs.script.read_script.Given as goal

abbrev pub invariant-lines : goal.invariant-lines
invariant-lines g l = record {
  read : script_from g.L.Line.form l.links l.script l.number (lines_of l.rest) ≡ events_of g.L.Line.form l.links l.text;
  counted : l.number + length l.rest ≤ length l.text + 1;
  within : All (g.L.Line.IsWithin l.links) l.script;
}

abbrev pub decreases-lines : goal.decreases-lines
decreases-lines g l = length l.rest
