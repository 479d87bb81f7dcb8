use Rattle.std.proofs.Common.{rules, sym}
use Rattle.ppp_world.proofs.BundleLinesLemmas.{peer-none, peer-some}
use Rattle.ppp_world.proofs.bundle_lines.PeerTextDisplay.fmt.Goals as goal

pub returns-in-None-clause-writes : goal.returns-in-None-clause-writes
returns-in-None-clause-writes g c = λ plain ok.
    rw (sym (peer-none c.peer.result c.args.self.now.bundle c.args.self.now.bundles.now c.in-None.is c.peer.ensures)) (search rules)

pub returns-in-Some-clause-writes : goal.returns-in-Some-clause-writes
returns-in-Some-clause-writes g c = λ plain ok.
    rw (sym (peer-some c.peer.result c.in-Some.disc c.args.self.now.bundle c.args.self.now.bundles.now c.in-Some.is c.peer.ensures)) (c.write.ensures.writes plain ok)
