use Rattle.std.proofs.Common.{◌∙◌, ap, subst}
use Rattle.ppp_world.specs.Says.{by_end}
use Rattle.ppp_world.specs.Step.{next_delivery}
use Rattle.ppp_world.specs.World.{DoesStep, UnlessMemory, Whole}
use Rattle.ppp_world.proofs.WorldLemmas.{halted_does, some_halt}
use Rattle.ppp_world.proofs.world.World.deliver_next.Goals as goal

pub returns-then-is_some-clause-done : goal.returns-then-is_some-clause-done
returns-then-is_some-clause-done g c = rw (← c.self.view_is) (halted_does _ _ _ (some_halt c.self.inside.halt c.if-is_some.ensures))

pub returns-clause-done : goal.returns-clause-done
returns-clause-done g c =
    let may = by_end (g.F.Policy.says c.args.self.now.policy_a) (g.G.Policy.says c.args.self.now.policy_b) in
    let next = c.next_delivery-next.ensures.value ∙ ap (λ (w : Whole g.row.F.Denot g.row.G.Denot). next_delivery w.world.ends) c.self.view_is in
    subst (λ step. UnlessMemory c.take.new.self.world.halt (DoesStep may step c.args.self.now.world c.take.new.self.world)) next c.take.ensures.done
