use Rattle.std.proofs.Common.{refl, sym, ap, ◌∙◌}
use Rattle.std.specs.Prelude.{Some, None}
use Rattle.ppp_bundle.specs.Bundles.{left}
use Rattle.ppp_trunk.specs.Steps.{so_far}
use Rattle.ppp_trunk.proofs.StepsLemmas.{DoesRuns, does-both, does-run, goes-is, controls-are, left-alone}
use Rattle.ppp_trunk.proofs.steps.go_down.Goals as goal

pub returns-in_default-clause-done : goal.returns-in_default-clause-done
returns-in_default-clause-done c =
    let out = sym c.bundle_of.ensures.value ∙ c.in_default.is in
    ap (λ b. so_far c.run.new.links.items b c.run.new.out.entries) (sym (left-alone c.args.number c.args.bundles.now out))
    ∙ goes-is c.args.number c.args.word None c.args.bundles.now (left c.args.number c.args.bundles.now) c.args.links.now.items c.run.new.links.items c.args.out.now.entries c.run.new.out.entries
    out refl (does-run c.args.word _ _ _ _ _ c.run.ensures.done)

pub returns-clause-done : goal.returns-clause-done
returns-clause-done c =
    let moved : DoesRuns c.args.word _ c.run-2.new.links.items c.move_control.new.links.items c.run-2.new.out.entries c.move_control.new.out.entries =
    record { is = c.move_control.ensures.done } in
    let down : DoesRuns c.args.word _ c.args.links.now.items c.run-2.new.links.items c.args.out.now.entries c.run-2.new.out.entries = does-run c.args.word _ _ _ _ _ c.run-2.ensures.done in
    goes-is c.args.number c.args.word (Some c.in-Some.bundle) c.args.bundles.now c.leave.new.self c.args.links.now.items c.move_control.new.links.items c.args.out.now.entries c.move_control.new.out.entries
    (sym c.bundle_of.ensures.value ∙ c.in-Some.is) c.leave.ensures.table
    (controls-are c.args.word c.args.number c.in-Some.bundle c.args.bundles.now c.leave.new.self c.control-old.result c.control.result _ _ _ _ c.control-old.ensures.value c.control.ensures.value
    (does-both c.args.word _ _ _ _ _ _ _ _ down moved))
