use Rattle.std.proofs.Common.{◌≡◌, ◌∙◌, arith, false, sym}
use Rattle.std.specs.Prelude.{nat_le}
use Rattle.std.proofs.lemmas.Bool.Decides.{nat_tests}
use Rattle.ppp_station.proofs.SoundLemmas.{far-link}
use Rattle.ppp_station.proofs.waits.is_joined.Goals as goal

pub returns-else-link-links : goal.returns-else-link-links
returns-else-link-links c =
    let far : nat_le c.args.link c.links.result ≡ false = grind (arith, nat_tests) in
    far ∙ sym (far-link c.args.link c.args.bundle c.args.trunk.now c.requires.trunk c.requires.link (omega (arith, c.if-link-links.false, c.links.ensures.count)))
