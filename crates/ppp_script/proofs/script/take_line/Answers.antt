use Rattle.std.proofs.Common.{sym}
use Rattle.ppp_script.proofs.ScriptLemmas.{script_from-remark, script_from-step, script_from-refused}
use Rattle.ppp_script.proofs.script.take_line.Goals as goal

pub returns-then-is_no_step-clause-ok : goal.returns-then-is_no_step-clause-ok
returns-then-is_no_step-clause-ok g c = λ lines. script_from-remark g.L.Line.form c.args.links c.args.number c.args.script.now c.args.line.now lines (sym c.if-is_no_step.ensures)

pub returns-in-Ok-clause-ok : goal.returns-in-Ok-clause-ok
returns-in-Ok-clause-ok g c =
    let step = rw (c.steps.ensures.steps, c.in-Ok-Ok.field-0-is) at c.in-Ok-Ok.ensures.value in
    λ lines. rw c.in-Ok.ensures.ok
    (script_from-step g.L.Line.form c.args.links c.args.number c.args.script.now c.in-Ok-Ok.step c.args.line.now lines (sym c.if-is_no_step.ensures) (sym step))

pub returns-in-Ok-Err-clause-refused : goal.returns-in-Ok-Err-clause-refused
returns-in-Ok-Err-clause-refused g c =
    let step = rw (c.steps.ensures.steps, c.in-Ok-Err.field-0-is) at c.in-Ok-Err.ensures.value in
    λ lines. script_from-refused g.L.Line.form c.args.links c.args.number c.args.script.now c.in-Ok-Err.why c.args.line.now lines (sym c.if-is_no_step.ensures) (sym step)
