use Rattle.ppp_world.proofs.WorldLemmas.{halted_does, no_halt, some_halt}
use Rattle.ppp_world.proofs.world.World.take.Goals as goal

pub returns-then-is_some-clause-done : goal.returns-then-is_some-clause-done
returns-then-is_some-clause-done g c = rw (← c.self.view_is) (halted_does _ _ _ (some_halt c.self.inside.halt c.if-is_some.ensures))

pub returns-in-Ok-clause-done : goal.returns-in-Ok-clause-done
returns-in-Ok-clause-done g c =
    let none = no_halt c.self.inside.halt c.if-is_some.ensures in rw (← c.self.view_is, none) c.in-Ok.ensures.done
