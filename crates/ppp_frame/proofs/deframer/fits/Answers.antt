use Rattle.std.proofs.Common.{sym, ◌∙◌, arith}
use Rattle.std.proofs.lemmas.Bool.{le-leb}
use Rattle.ppp_frame.proofs.EscapesLemmas.{length-unstuffed}
use Rattle.ppp_frame.proofs.deframer.fits.Goals as goal

pub returns-then-run-room : goal.returns-then-run-room
returns-then-run-room c =
    let fewer = length-unstuffed c.args.escaped c.args.run.now in
    le-leb _ _ (omega arith) ∙ sym (le-leb _ _ (omega arith))
