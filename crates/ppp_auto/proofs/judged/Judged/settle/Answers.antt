use Rattle.std.proofs.Common.{refl, sym, ◌∙◌}
use Rattle.ppp_packet.specs.Options.{option_with}
use Rattle.ppp_auto.specs.Front.{PutsBehind}
use Rattle.ppp_auto.proofs.JudgedLemmas.{puts_missing, puts_nothing, settles_missing, settles_rejecting}
use Rattle.ppp_auto.proofs.judged.Judged.settle.Goals as goal

pub returns-then-rejects : goal.returns-then-rejects
returns-then-rejects g c = settles_rejecting _ _ _ _ _ _ c.judge.ensures (sym c.rejects.ensures ∙ c.if-rejects.true)

pub returns-in-Some : goal.returns-in-Some
returns-in-Some g c =
    let put : PutsBehind c.judge.new.self.front c.put.new.self (option_with c.in-Some.option.kind c.in-Some.option.body) = rw (← c.kind.ensures, ← c.body.ensures.value) c.put.ensures in
    settles_missing c.args.self.now.spent _ _ _ _ c.judge.new.self (record c.judge.new.self { front = c.put.new.self }) c.judge.ensures (sym c.rejects.ensures ∙ c.if-rejects.false) refl refl refl (puts_missing _ _ _ c.in-Some.option c.in-Some.ensures put)

pub returns-in_default : goal.returns-in_default
returns-in_default g c = settles_missing _ _ _ _ _ c.judge.new.self _ c.judge.ensures (sym c.rejects.ensures ∙ c.if-rejects.false) refl refl refl (puts_nothing _ _ c.in_default.ensures)
