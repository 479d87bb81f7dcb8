use Rattle.std.proofs.Common.{◌≡◌}
use Rattle.ppp_world.specs.Says.{by_end}
use Rattle.ppp_world.proofs.WorldLemmas.{SettlesOn}
use Rattle.ppp_world.proofs.world.World.settle.Given as goal

abbrev pub invariant-loop-i : goal.invariant-loop-i
invariant-loop-i g l = record {
  far : SettlesOn (by_end (g.F.Policy.says l.initial.self.policy_a) (g.G.Policy.says l.initial.self.policy_b)) l.i l.initial.self.world l.self.world;
  policy_a : l.self.policy_a ≡ l.initial.self.policy_a;
  policy_b : l.self.policy_b ≡ l.initial.self.policy_b;
}
