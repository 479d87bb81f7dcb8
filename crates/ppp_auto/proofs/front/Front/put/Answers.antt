use Rattle.std.proofs.Common.{inl, inr, refl, arith}
use Rattle.ppp_auto.proofs.FrontLemmas.{front_full, front_put}
use Rattle.ppp_auto.proofs.front.Front.put.Goals as goal

pub returns-then-self : goal.returns-then-self
returns-then-self c = front_full _ _ _ (inl c.if-self.true) refl c.if-self.true

pub returns-then-len-body-gt-MOST_REST : goal.returns-then-len-body-gt-MOST_REST
returns-then-len-body-gt-MOST_REST c = front_full c.args.self.now _ _ (inr (c.if-self.false, omega arith)) refl refl

pub returns : goal.returns
returns c = front_put c.args.self.now _ _ c.if-self.false (omega arith) c.put_option.ensures c.if-self.false
