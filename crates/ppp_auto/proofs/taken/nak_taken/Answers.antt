use Rattle.ppp_auto.proofs.taken.nak_taken.Goals as goal

pub returns : goal.returns
returns g c = rw (← c.is_nak_of.ensures, c.if-not-is_nak_of.false, ← c.adapt_nak.ensures) (c.adapting.ensures _)
