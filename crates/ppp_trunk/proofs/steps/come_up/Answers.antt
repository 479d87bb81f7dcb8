use Rattle.std.proofs.Common.{◌≡◌, ◌<◌, ◌-◌, ap, arith, get_or, length, slice_get, sym, ◌∙◌}
use Rattle.std.specs.Prelude.{Some, None}
use Rattle.std.proofs.lemmas.Option.{get_or_from_slice_get, slice_get-get_or}
use Rattle.ppp_bundle.specs.Bundles.{control_of}
use Rattle.ppp_bundle.specs.JoinKey.{key_seen}
use Rattle.ppp_bundle.specs.declared.limits.TheConstants.{MOST_BUNDLES}
use Rattle.ppp_link.specs.Link.{Link}
use Rattle.ppp_trunk.proofs.StepsLemmas.{comes-is, joined-below, joined-moves, joined-single, of-link}
use Rattle.ppp_trunk.proofs.steps.come_up.Goals as goal

pub move_control-requires-clause-old : goal.move_control-requires-clause-old
move_control-requires-clause-old c =
    let below : c.in-First.bundle < MOST_BUNDLES = joined-below c.join.result c.in-First.bundle c.args.bundles.now (length c.args.links.now.items) c.in-First.is c.requires.limits c.join.ensures.within in
    let value : get_or c.controls_of-before.result c.from-in-First.result None ≡ control_of c.in-First.bundle c.args.bundles.now =
    ap (λ n. get_or c.controls_of-before.result n None) c.from-in-First.ensures
    ∙ get_or_from_slice_get c.controls_of-before.result c.in-First.bundle _ None (c.controls_of-before.ensures.value c.in-First.bundle below) in
    of-link _ c.args.bundles.now (length c.args.links.now.items) (control_of c.in-First.bundle c.args.bundles.now) value c.requires.limits (c.controls_of-before.ensures.within c.in-First.bundle below)

pub returns-in-Single-clause-done : goal.returns-in-Single-clause-done
returns-in-Single-clause-done c =
    let at : slice_get c.args.links.now.items (c.args.number - 1) ≡ Some c.index.result.now =
    ap (λ n. slice_get c.args.links.now.items (n - 1)) (sym c.from.ensures)
    ∙ slice_get-get_or c.args.links.now.items (c.from.result - 1) _ (omega (arith, c.from.ensures, c.requires.number.0, c.requires.number.1))
    ∙ ap (λ (k : Link). Some k) (sym c.index.ensures) in
    comes-is c.args.number c.args.word c.index.result.now (key_seen c.key_of-key.result) c.join.result c.args.bundles.now c.join.new.self c.args.links.now.items c.run.new.links.items c.args.out.now.entries c.run.new.out.entries
    at c.key_of-key.ensures c.join.ensures.answer c.join.ensures.table
    (joined-single c.args.word c.args.number c.join.result c.args.bundles.now c.join.new.self _ _ _ _ _ c.in-Single.is c.run.ensures.done)

pub returns-in-First-clause-done : goal.returns-in-First-clause-done
returns-in-First-clause-done c =
    let at : slice_get c.args.links.now.items (c.args.number - 1) ≡ Some c.index.result.now =
    ap (λ n. slice_get c.args.links.now.items (n - 1)) (sym c.from.ensures)
    ∙ slice_get-get_or c.args.links.now.items (c.from.result - 1) _ (omega (arith, c.from.ensures, c.requires.number.0, c.requires.number.1))
    ∙ ap (λ (k : Link). Some k) (sym c.index.ensures) in
    let below : c.in-First.bundle < MOST_BUNDLES = joined-below c.join.result c.in-First.bundle c.args.bundles.now (length c.args.links.now.items) c.in-First.is c.requires.limits c.join.ensures.within in
    let value : get_or c.controls_of-before.result c.from-in-First.result None ≡ control_of c.in-First.bundle c.args.bundles.now =
    ap (λ n. get_or c.controls_of-before.result n None) c.from-in-First.ensures
    ∙ get_or_from_slice_get c.controls_of-before.result c.in-First.bundle _ None (c.controls_of-before.ensures.value c.in-First.bundle below) in
    comes-is c.args.number c.args.word c.index.result.now (key_seen c.key_of-key.result) c.join.result c.args.bundles.now c.join.new.self c.args.links.now.items c.move_control.new.links.items c.args.out.now.entries c.move_control.new.out.entries
    at c.key_of-key.ensures c.join.ensures.answer c.join.ensures.table
    (joined-moves c.args.word c.args.number c.in-First.bundle c.join.result c.args.bundles.now c.join.new.self _ c.control.result _ _ _ _ c.in-First.is value c.control.ensures.value c.move_control.ensures.done)
