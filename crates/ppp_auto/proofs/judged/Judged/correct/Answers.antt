use Rattle.std.proofs.Common.{refl}
use Rattle.ppp_packet.specs.Options.{option_with}
use Rattle.ppp_packet.specs.OptRef.{option_seen}
use Rattle.ppp_auto.specs.Front.{PutsBehind}
use Rattle.ppp_auto.proofs.JudgedLemmas.{corrects_refused, corrects_spent, corrects_unspent}
use Rattle.ppp_auto.proofs.judged.Judged.correct.Goals as goal

pub returns-then-self : goal.returns-then-self
returns-then-self c = corrects_refused c.args.self.now _ (option_seen c.args.option) _ refl refl c.if-self.true refl

pub returns-then-self-2 : goal.returns-then-self-2
returns-then-self-2 c = corrects_spent c.args.self.now _ (option_seen c.args.option) _ refl refl refl c.if-self.false c.if-self-2.true c.put.ensures

pub returns-else-self-2 : goal.returns-else-self-2
returns-else-self-2 c =
    let put : PutsBehind c.args.self.now.front c.put-else-self-2.new.self (option_with c.args.better.now.kind c.args.better.now.body) = rw (← c.kind.ensures, ← c.body.ensures.value) c.put-else-self-2.ensures in
    corrects_unspent c.args.self.now _ (option_seen c.args.option) c.args.better.now refl refl refl c.if-self.false c.if-self-2.false put
