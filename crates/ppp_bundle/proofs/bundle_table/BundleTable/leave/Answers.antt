use Rattle.std.proofs.Common.{◌-◌, ap, sym, arith, set, ◌∙◌, subst}
use Rattle.std.specs.Prelude.{None}
use Rattle.ppp_bundle.specs.BundleTable.{IsBundles, peers_seen}
use Rattle.ppp_bundle.specs.Bundles.{left, left_as}
use Rattle.ppp_bundle.proofs.BundlesLemmas.{bundle-within, sound-left}
use Rattle.ppp_bundle.proofs.TableLemmas.{IsLeft, joined-in, left-is, left-told}
use Rattle.ppp_bundle.proofs.bundle_table.BundleTable.leave.Goals as goal

pub index_mut-requires-2 : goal.index_mut-requires-2
index_mut-requires-2 c =
    let joined = joined-in _ c.args.self.now c.args.link c.in-Some.bundle c.bundle_of.result c.self.view_is c.bundle_of.ensures.value c.in-Some.is in
    let within = bundle-within c.args.link c.in-Some.bundle _ c.self.invariant.sound joined in
    omega (arith, within, c.from-2.ensures, c.self.invariant.controls.size, c.self.inside.controls.ok.0)

gone : (c : goal.After-is_none) → IsLeft c.self.inside.limits c.self.inside.places.items (set c.self.inside.places.items (c.from.result - 1) None) (peers_seen c.self.inside.peers.items)
    (set c.self.inside.controls.items c.from-2.result c.control_in-control.result) c.args.link
gone c =
    let joined = joined-in _ c.args.self.now c.args.link c.in-Some.bundle c.bundle_of.result c.self.view_is c.bundle_of.ensures.value c.in-Some.is in
    let within = bundle-within c.args.link c.in-Some.bundle _ c.self.invariant.sound joined in
    left-is c.self.inside.limits c.self.inside.places.items c.as_slice.result.now (peers_seen c.self.inside.peers.items) c.self.inside.controls.items c.args.link c.from.result c.in-Some.bundle c.from-2.result c.control_in-control.result
    c.from.ensures c.from-2.ensures within c.self.invariant.controls joined c.as_slice.ensures.value c.control_in-control.ensures

pub invariant_of-self : goal.invariant_of-self
invariant_of-self c =
    let done = gone c in
    record {
      sound = subst IsBundles (sym done.seen) (sound-left c.args.link _ c.self.invariant.sound);
      controls = done.controls;
      room = c.self.invariant.room;
    }

pub returns-clause-answer : goal.returns-clause-answer
returns-clause-answer c =
    let joined = joined-in _ c.args.self.now c.args.link c.in-Some.bundle c.bundle_of.result c.self.view_is c.bundle_of.ensures.value c.in-Some.is in
    left-told c.self.inside.limits c.self.inside.places.items c.as_slice.result.now (peers_seen c.self.inside.peers.items) c.args.link c.from.result c.in-Some.bundle c.control_in-control.result c.is_none.result
    c.from.ensures joined c.as_slice.ensures.value c.control_in-control.ensures c.is_none.ensures
    ∙ ap (left_as c.args.link) c.self.view_is

pub returns-clause-table : goal.returns-clause-table
returns-clause-table c = (gone c).seen ∙ ap (left c.args.link) c.self.view_is
