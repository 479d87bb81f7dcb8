use Rattle.std.proofs.Common.{false, true, refl, ◌∙◌}
use Rattle.ppp_trunk.specs.Control.{control_run}
use Rattle.ppp_trunk.specs.Steps.{so_far}
use Rattle.ppp_trunk.proofs.StepsLemmas.{DoesRuns, control-none, control-some, moved-other, moved-same}
use Rattle.ppp_trunk.proofs.steps.move_control.Goals as goal
use Rattle.ppp_trunk.proofs.steps.move_control.Goals.{in-Some, in_default}

pub returns-then-eq-clause-done : goal.returns-then-eq-clause-done
returns-then-eq-clause-done c = (moved-same c.args.word c.args.old c.args.new c.eq.result c.args.links.now.items c.args.out.now.entries c.eq.ensures c.if-eq.true).is

pub returns-in-Some-new-clause-done : goal.returns-in-Some-new-clause-done
returns-in-Some-new-clause-done c =
    let down : DoesRuns c.args.word (control_run false c.args.old) c.args.links.now.items c.match-old.links.items c.args.out.now.entries c.match-old.out.entries =
    elim c.match-old.branch [
      | in-Some w ↦ control-some c.args.word w.in-Some.link false c.args.old _ _ _ _ w.in-Some.is (λ b. (λ i. so_far (w.links-is i).items b (w.out-is i).entries) ∙ w.run.ensures.done b)
      | in_default w ↦ control-none c.args.word false c.args.old _ _ _ _ w.in_default.is (λ i. (w.links-is i).items) (λ i. (w.out-is i).entries)
    ] in
    (moved-other c.args.word c.args.old c.args.new c.eq.result _ _ _ _ _ _ c.eq.ensures c.if-eq.false down
    (control-some c.args.word c.in-Some-new.link true c.args.new _ _ _ _ c.in-Some-new.is c.run-in-Some-new.ensures.done)).is

pub returns-in_default-new-clause-done : goal.returns-in_default-new-clause-done
returns-in_default-new-clause-done c =
    let down : DoesRuns c.args.word (control_run false c.args.old) c.args.links.now.items c.match-old.links.items c.args.out.now.entries c.match-old.out.entries =
    elim c.match-old.branch [
      | in-Some w ↦ control-some c.args.word w.in-Some.link false c.args.old _ _ _ _ w.in-Some.is (λ b. (λ i. so_far (w.links-is i).items b (w.out-is i).entries) ∙ w.run.ensures.done b)
      | in_default w ↦ control-none c.args.word false c.args.old _ _ _ _ w.in_default.is (λ i. (w.links-is i).items) (λ i. (w.out-is i).entries)
    ] in
    (moved-other c.args.word c.args.old c.args.new c.eq.result _ _ _ _ _ _ c.eq.ensures c.if-eq.false down
    (control-none c.args.word true c.args.new _ _ _ _ c.in_default-new.is refl refl)).is
