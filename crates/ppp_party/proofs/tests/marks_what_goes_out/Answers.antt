use Rattle.std.proofs.Common.{◌^◌, arith, subst, sym}
use Rattle.ppp_party.specs.Counted.{IsCounted}
use Rattle.ppp_party.proofs.SendLemmas.{counted-begun, counted-frame, counted-more}
use Rattle.ppp_party.proofs.tests.marks_what_goes_out.Goals as goal

pub post_frame-requires-2-clause-counted : goal.post_frame-requires-2-clause-counted
post_frame-requires-2-clause-counted g c =
    counted-more 1 (2 ^ 63) c.post_frame.new.ledgers (omega arith)
    (subst (λ gs. IsCounted 1 gs) (sym c.in_ok-post_frame.ensures.ledgers)
    (counted-frame 0 c.new-ledgers.result _ (subst (λ gs. IsCounted 0 gs) (sym c.new-ledgers.ensures) counted-begun)))
