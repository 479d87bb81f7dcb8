use Rattle.ppp_auto.proofs.taken.reject_taken.Goals as goal

pub returns : goal.returns
returns g c = rw (← c.is_reject_of.ensures, c.if-not-is_reject_of.false, ← c.adapt_reject.ensures) (c.adapting.ensures _)
