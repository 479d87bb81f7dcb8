use Rattle.std.proofs.Common.{◌≡◌, drop}
use Rattle.ppp_conf.specs.Config.{config_seen}
use Rattle.ppp_world.proofs.ReplayLemmas.{Replays}
use Rattle.ppp_world.proofs.replayed.replay_with.Given as goal

abbrev pub invariant-loop-i : goal.invariant-loop-i
invariant-loop-i g l = record {
  replays : Replays (config_seen l.config) l.script l.world.world (drop l.i l.script);
  policy_a : l.world.policy_a ≡ l.fn.policy_a;
  policy_b : l.world.policy_b ≡ l.fn.policy_b;
}
