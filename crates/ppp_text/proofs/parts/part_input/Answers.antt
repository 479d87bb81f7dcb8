use Rattle.std.proofs.Common.{[], ◌++◌, length, sym, ap, arith, ◌∙◌, length-append}
use Rattle.std.proofs.lemmas.Bool.{eqb-true}
use Rattle.ppp_text.proofs.PartsLemmas.{Passed-none, Passed-line, Passed-parting, Passed-all, Passed-front}
use Rattle.ppp_text.proofs.parts.part_input.Goals as goal

pub lines-init : goal.lines-init
lines-init c = ([], Passed-none c.args.text.now)

pub lines-preserved : goal.lines-preserved
lines-preserved c =
    let front = c.lines.invariant in
    let line = c.split_line.ensures.line in
    let other = rw c.as_slice.ensures at c.if-eq.ensures in
    (front.0 ++ line.piece, Passed-line c.args.text.now front.0 c.lines.rest.now _ c.split_line.result.1.now front.1 line (sym other))

pub returns : goal.returns
returns c =
    let front = c.lines.invariant in
    let all = Passed-all c.args.text.now front.0 c.lines.rest.now front.1 (eqb-true _ _ (sym c.lines-test.ensures)) in
    record { settings = sym all.0; script = sym all.1; within = omega (arith, eqb-true _ _ (sym c.lines-test.ensures)) }

pub returns-then-eq : goal.returns-then-eq
returns-then-eq c =
    let front = c.lines.invariant in
    let is = rw c.as_slice.ensures at c.if-eq.ensures in
    let found = Passed-parting c.args.text.now front.0 c.lines.rest.now _ c.split_line.result.1.now front.1 c.split_line.ensures.line (sym is) in
    record {
      settings = c.split_at.ensures.front ∙ Passed-front c.args.text.now front.0 c.lines.rest.now front.1 ∙ sym found.0;
      script = sym found.1;
      within = omega (arith, c.split_line.ensures.shorter, ap length front.1.text_is, length-append front.0 c.lines.rest.now);
    }
