use Rattle.std.proofs.Common.{◌≡◌, arith}
use Rattle.ppp_frame.specs.Frame.{enc}
use Rattle.ppp_link.proofs.LinkOutLemmas.{length-enc}
use Rattle.ppp_link.proofs.link_out.write_frame.Goals as goal

pub returns-clause-size : goal.returns-clause-size
returns-clause-size c =
    let is : c.encode.new.out ≡ enc c.args.form c.args.protocol c.args.packet.now = rw c.unwrap.ensures at c.encode.ensures.ok in
    let short = length-enc c.args.form c.args.protocol c.args.packet.now in
    rw is (omega (arith, short, c.requires))
