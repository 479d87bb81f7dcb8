use Rattle.std.proofs.Common.{◌++◌, take, arith, subst, length-drop}
use Rattle.ppp_show.specs.Shown.{HasShown}
use Rattle.ppp_show.proofs.ShownLemmas.{stream-on}
use Rattle.ppp_show.proofs.shown.Shown.take.Goals as goal

pub pieces-preserved : goal.pieces-preserved
pieces-preserved c =
    let octets = c.args.octets.now in
    let at = c.pieces.at in
    let used = rw c.split_at.ensures.back at c.in_ok-at.ensures.used in record {
      within = omega (arith, used, length-drop at octets);
      shown = λ stream before.
          subst (λ all. HasShown all c.take_piece.new.self) (stream-on stream octets c.split_at.result.1.now at c.in_ok-at.field-0 c.split_at.ensures.back)
          (c.in_ok-at.ensures.shown (stream ++ take at octets) (c.pieces.invariant.shown stream before));
    }
