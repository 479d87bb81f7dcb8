use Rattle.std.proofs.Common.{◌≡◌, ◌∙◌, add-one, arith, refl}
use Rattle.ppp_world.proofs.WorldLemmas.{settles_first, settles_next}
use Rattle.ppp_world.proofs.world.World.settle.Goals as goal

pub loop-i-init : goal.loop-i-init
loop-i-init g c = record { far = settles_first _ c.args.self.now.world; policy_a = refl; policy_b = refl }

pub deliver_next-requires : goal.deliver_next-requires
deliver_next-requires g c = omega (arith, c.requires, c.loop-i-test.true, c.loop-i.invariant.far.steps)

pub loop-i-preserved : goal.loop-i-preserved
loop-i-preserved g c =
    let did = c.deliver_next.ensures in
    let before = c.loop-i.invariant in
    let one = rw (before.policy_a, before.policy_b) at did.done in
    record {
      far = rw add-one (settles_next _ c.loop-i.i c.args.self.now.world c.loop-i.self.world c.deliver_next.new.self.world one did.halted did.steps did.later before.far);
      policy_a = did.policy_a ∙ before.policy_a;
      policy_b = did.policy_b ∙ before.policy_b;
    }

pub returns-clause-done : goal.returns-clause-done
returns-clause-done g c =
    let all : c.loop-i.i ≡ c.args.count = omega (arith, c.loop-i-test.false, c.loop-i.auto.i-end) in
    rw (← all) c.loop-i.invariant.far.done

pub returns-clause-halted : goal.returns-clause-halted
returns-clause-halted g c = c.loop-i.invariant.far.halted

pub returns-clause-steps : goal.returns-clause-steps
returns-clause-steps g c = omega (arith, c.loop-i.invariant.far.steps, c.loop-i.auto.i-end)

pub returns-clause-later : goal.returns-clause-later
returns-clause-later g c = c.loop-i.invariant.far.later

pub returns-clause-policy_a : goal.returns-clause-policy_a
returns-clause-policy_a g c = c.loop-i.invariant.policy_a

pub returns-clause-policy_b : goal.returns-clause-policy_b
returns-clause-policy_b g c = c.loop-i.invariant.policy_b
