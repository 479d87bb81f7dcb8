use Rattle.ppp_world.specs.Agreement.{opened_on}
use Rattle.ppp_world.specs.Report.{line_on}
use Rattle.ppp_world.proofs.ReportLemmas.{proto_all, proto_more}
use Rattle.std.proofs.Common.{arith}
use Rattle.ppp_world.proofs.report.write_link.Goals as goal

pub loop-i-preserved : goal.loop-i-preserved
loop-i-preserved c =
    let a = c.args.a.now.links in
    let b = c.args.b.now.links in
    proto_more (line_on (λ m p. opened_on m p a b) c.args.link a b) c.loop-i.i _ _ _ _ c.loop-i-test.true c.loop-i.invariant c.in_ok-write_proto.ensures

pub returns : goal.returns
returns c = proto_all (λ m p. opened_on m p c.args.a.now.links c.args.b.now.links) c.loop-i.i c.args.link c.args.a.now.links c.args.b.now.links _ _ (omega (arith, c.loop-i.auto.i-end, c.loop-i-test.false)) c.loop-i.invariant
