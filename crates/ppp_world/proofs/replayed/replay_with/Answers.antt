use Rattle.std.proofs.Common.{◌≡◌, suc, [], ◌∷◌, drop, ◌∙◌, sym, arith, add-one}
use Rattle.ppp_conf.specs.Config.{config_seen}
use Rattle.ppp_party.proofs.ListLemmas.{drop-get}
use Rattle.std.proofs.Math.ListN.{drop_of_length-le}
use Rattle.ppp_world.proofs.ReplayLemmas.{known-by, replays-begun, replays-room, replays-next, replays-all, replays-stopped, if_ok_all}
use Rattle.ppp_world.proofs.replayed.replay_with.Goals as goal

pub loop-i-init : goal.loop-i-init
loop-i-init g c = record {
  replays = replays-begun (config_seen c.args.config.now) c.args.script.now c.in_ok-world.world.world c.in_ok-world.ensures.begun c.count-i-end.ensures.steps;
  policy_a = c.in_ok-world.ensures.policy_a;
  policy_b = c.in_ok-world.ensures.policy_b;
}

pub step-requires : goal.step-requires
step-requires g c =
    let front : drop c.loop-i.i c.args.script.now ≡ c.at.result.now ∷ drop (suc c.loop-i.i) c.args.script.now = drop-get c.args.script.now c.loop-i.i c.at.result.now c.at.ensures.line in
    replays-room (config_seen c.args.config.now) c.args.script.now c.loop-i.world.world (drop c.loop-i.i c.args.script.now) (drop (suc c.loop-i.i) c.args.script.now) c.at.result.now front c.loop-i.invariant.replays

pub stopped-requires : goal.stopped-requires
stopped-requires g c =
    let front : drop c.loop-i.i c.args.script.now ≡ c.at.result.now ∷ drop (suc c.loop-i.i) c.args.script.now = drop-get c.args.script.now c.loop-i.i c.at.result.now c.at.ensures.line in
    let room = replays-room (config_seen c.args.config.now) c.args.script.now c.loop-i.world.world (drop c.loop-i.i c.args.script.now) (drop (suc c.loop-i.i) c.args.script.now) c.at.result.now front c.loop-i.invariant.replays in
    omega (arith, room, c.step.ensures.steps)

pub loop-i-preserved : goal.loop-i-preserved
loop-i-preserved g c =
    let front : drop c.loop-i.i c.args.script.now ≡ c.at.result.now ∷ drop (suc c.loop-i.i) c.args.script.now = drop-get c.args.script.now c.loop-i.i c.at.result.now c.at.ensures.line in
    let before = c.loop-i.invariant in
    let did = rw (before.policy_a, before.policy_b) at c.step.ensures.done in
    record {
      replays = rw add-one (replays-next _ (config_seen c.args.config.now) (known-by (config_seen c.args.config.now) _ _ c.requires.shipped_a c.requires.shipped_b)
          c.args.script.now c.loop-i.world.world c.step.new.self.world (drop c.loop-i.i c.args.script.now) (drop (suc c.loop-i.i) c.args.script.now) c.at.result.now c.step.result front c.step.ensures.answer c.in-Ok.is did c.step.ensures.steps before.replays);
      policy_a = c.step.ensures.policy_a ∙ before.policy_a;
      policy_b = c.step.ensures.policy_b ∙ before.policy_b;
    }

pub returns-in-Err : goal.returns-in-Err
returns-in-Err g c =
    let front : drop c.loop-i.i c.args.script.now ≡ c.at.result.now ∷ drop (suc c.loop-i.i) c.args.script.now = drop-get c.args.script.now c.loop-i.i c.at.result.now c.at.ensures.line in
    let config = c.args.config.now in
    let before = c.loop-i.invariant in
    let did = rw (before.policy_a, before.policy_b) at c.step.ensures.done in
    if_ok_all c.stopped.result c.stopped.ensures.report c.stopped.ensures.refused c.stopped.ensures.some
    (λ replayed told refused some. replays-stopped _ (config_seen config) (known-by (config_seen config) _ _ c.requires.shipped_a c.requires.shipped_b)
    c.args.script.now c.loop-i.world.world c.step.new.self.world (drop c.loop-i.i c.args.script.now) (drop (suc c.loop-i.i) c.args.script.now) c.at.result.now c.step.result c.in-Err.fault replayed.refused replayed.report.items
    (config.a_links ∙ sym config.b_links) front c.step.ensures.answer c.in-Err.is did before.replays told refused some)

pub returns : goal.returns
returns g c =
    let none : drop c.loop-i.i c.args.script.now ≡ [] = drop_of_length-le c.args.script.now (omega (arith, c.count-i-end.ensures.count, c.loop-i-test.false)) in
    let config = c.args.config.now in
    replays-all (config_seen config) c.args.script.now c.loop-i.world.world _ (config.a_links ∙ sym config.b_links) c.into_report.ensures (rw none at c.loop-i.invariant.replays)
