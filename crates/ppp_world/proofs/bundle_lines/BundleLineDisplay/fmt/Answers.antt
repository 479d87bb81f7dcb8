use Rattle.std.proofs.Output.{has_written_of_eq}
use Rattle.std.specs.Prelude.{codes}
use Rattle.ppp_script.specs.End.{end_name}
use Rattle.ppp_world.specs.BundleLines.{bundle_line, bundle_links, peer_text, wait_text}
use Rattle.ppp_world.proofs.BundleLinesLemmas.{eight-pieces}
use Rattle.ppp_world.proofs.bundle_lines.BundleLineDisplay.fmt.Goals as goal

pub returns-clause-writes : goal.returns-clause-writes
unfolding bundle_line
returns-clause-writes g c =
    let b = c.args.self.now.bundle in
    let t = c.args.self.now.bundles.now in
    λ plain ok.
    has_written_of_eq _ _ _ _ _ (eight-pieces (end_name c.args.self.now.end) (codes " bundle ") (peer_text b t) (codes " ") (bundle_links b t) (codes " waiting ") (wait_text c.args.self.now.waiting) (codes "\n"))
    (c.write.ensures.writes plain ok)
