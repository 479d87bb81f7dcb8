use Rattle.std.proofs.Common.{sym, ◌∙◌, ap, arith}
use Rattle.std.proofs.lemmas.Bool.{eqb-true}
use Rattle.std.proofs.lemmas.List.Elements.{All-nil}
use Rattle.std.proofs.lemmas.Result.{err_from_is_err_and}
use Rattle.ppp_text.specs.Lines.{lines_of}
use Rattle.ppp_text.proofs.LinesLemmas.{lines_of-nil}
use Rattle.ppp_script.specs.Script.{script_from}
use Rattle.ppp_script.proofs.ScriptLemmas.{script_from-start, script_from-end, IsRefusal-same}
use Rattle.ppp_script.proofs.script.read_script.Goals as goal

pub lines-init : goal.lines-init
lines-init g c = record {
  read = rw c.new-script.ensures (script_from-start g.L.Line.form c.args.links c.args.text.now);
  counted = omega arith;
  within = rw c.new-script.ensures (All-nil (g.L.Line.IsWithin c.args.links));
}

pub returns-in_err-take_line-clause-refused : goal.returns-in_err-take_line-clause-refused
returns-in_err-take_line-clause-refused g c =
    let p = err_from_is_err_and c.from_residual.result c.from_residual.ensures.1 in
    rw (p.1, p.2) (IsRefusal-same g.L.Line.form c.args.links c.lines.number c.lines.script c.lines.rest.now _ c.split_line.result.1.now _ c.in_err-take_line.field-0.0
    c.split_line.ensures.line c.lines.invariant.read (c.in_err-take_line.ensures.refused (lines_of c.split_line.result.1.now)))

pub returns-clause-ok : goal.returns-clause-ok
returns-clause-ok g c =
    let none = lines_of-nil c.lines.rest.now (eqb-true _ _ (sym c.lines-test.ensures)) in
    sym c.lines.invariant.read ∙ ap (script_from g.L.Line.form c.args.links c.lines.script c.lines.number) none ∙ script_from-end g.L.Line.form c.args.links c.lines.number c.lines.script
