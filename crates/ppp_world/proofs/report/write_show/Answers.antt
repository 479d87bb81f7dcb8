use Rattle.std.specs.String.{string_bytes}
use Rattle.ppp_script.specs.declared.end.End.TheVariants.{A, B}
use Rattle.ppp_world.specs.Agreement.{opened_on}
use Rattle.ppp_world.specs.BundleLines.{bundle_lines}
use Rattle.ppp_world.specs.Report.{links_block}
use Rattle.ppp_world.proofs.ReportLemmas.{block-all}
use Rattle.ppp_world.proofs.report.write_show.Goals as goal

pub returns : goal.returns
returns g c =
    let a = c.args.a.now.station in
    let b = c.args.b.now.station in
    block-all c.write_bundles-2.result (string_bytes c.args.report.now) (links_block (λ m p. opened_on m p a.trunk.links b.trunk.links) c.args.step a.trunk b.trunk)
    (bundle_lines A a.trunk.bundles a.requests) (bundle_lines B b.trunk.bundles b.requests) _ _ _
    (rw (← c.trunk.ensures, ← c.trunk-2.ensures) c.in_ok-write_links.ensures) c.in_ok-write_bundles.ensures c.write_bundles-2.ensures
