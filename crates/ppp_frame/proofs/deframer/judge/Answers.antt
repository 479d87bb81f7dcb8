use Rattle.std.proofs.Common.{sym, ap, ◌∙◌, arith}
use Rattle.ppp_frame.specs.Verdict.{verdict_of_header}
use Rattle.ppp_frame.proofs.VerdictLemmas.{verdict_bad, verdict_by_header, judged_frame}
use Rattle.ppp_frame.proofs.deframer.judge.Goals as goal

pub returns-then-running-ne-GOOD-clause-verdict : goal.returns-then-running-ne-GOOD-clause-verdict
returns-then-running-ne-GOOD-clause-verdict c =
    verdict_bad c.args.ac c.args.pf c.args.plain.now (omega arith) (λ i. omega (arith, c.type_inv.plain i))
    (λ is. c.if-running-ne-GOOD.true (c.requires ∙ is))

pub returns-in-Some-clause-verdict : goal.returns-in-Some-clause-verdict
returns-in-Some-clause-verdict c =
    judged_frame c.args.ac c.args.pf c.args.plain.now c.in-Some.header.protocol c.in-Some.header.size (omega arith)
    (λ i. omega (arith, c.type_inv.plain i)) (sym c.requires ∙ c.if-running-ne-GOOD.false) c.in-Some.ensures.0 c.in-Some.ensures.1

pub returns-in-None-clause-verdict : goal.returns-in-None-clause-verdict
returns-in-None-clause-verdict c =
    ap verdict_of_header (sym c.in-None.ensures)
    ∙ verdict_by_header c.args.ac c.args.pf c.args.plain.now (omega arith) (λ i. omega (arith, c.type_inv.plain i))
    (sym c.requires ∙ c.if-running-ne-GOOD.false)
