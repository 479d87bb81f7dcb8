use Rattle.ppp_world.specs.Agreement.{opened_on}
use Rattle.ppp_world.proofs.ReportLemmas.{link_more}
use Rattle.ppp_world.proofs.report.write_links.Goals as goal

pub loop-i-preserved : goal.loop-i-preserved
loop-i-preserved c =
    let a = c.args.a.now.links in
    let b = c.args.b.now.links in
    link_more (λ m p. opened_on m p a b) c.loop-i.i a b _ _ _ c.loop-i.invariant c.in_ok-write_link.ensures
