use Rattle.std.proofs.Common.{◌∙◌, sym, arith}
use Rattle.ppp_bap.proofs.RequestsLemmas.{request-alike, sound-waiting}
use Rattle.ppp_bap.proofs.bap.Bap.ask.Goals as goal

pub invariant_of-self : goal.invariant_of-self
invariant_of-self g c = (
  c.self.invariant.0,
  sound-waiting c.from.result _ _ c.self.invariant.1
      (record {
        id = c.draw-id.ensures.fits;
        link = c.requires.link;
        least = omega arith;
        most = omega arith;
        alike = request-alike c.args.request c.args.view.now c.args.self.now.requests c.in_ok-wish.wish (sym c.request_for.ensures ∙ c.in_ok-wish.was);
      }),
)
