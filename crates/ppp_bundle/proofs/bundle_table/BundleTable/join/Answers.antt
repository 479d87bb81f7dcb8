use Rattle.std.proofs.Common.{◌-◌, Some, false, ap, arith, set, subst, ◌∙◌}
use Rattle.ppp_bundle.specs.BundleTable.{IsBundles, peers_seen}
use Rattle.ppp_bundle.specs.Bundles.{bundle_at}
use Rattle.ppp_bundle.specs.JoinKey.{key_seen}
use Rattle.ppp_bundle.specs.Joining.{joined_as}
use Rattle.ppp_bundle.proofs.BundlesLemmas.{allows-answer, joins-within}
use Rattle.ppp_bundle.proofs.TableLemmas.{IsJoined, answer-to, joined-is, room-for}
use Rattle.ppp_bundle.proofs.bundle_table.BundleTable.join.Goals as goal

pub remember-requires : goal.remember-requires
remember-requires c = λ new.
    let joined = answer-to _ c.args.self.now (key_seen c.args.key.now) c.answer-answer.result c.bundle.result (Some c.in-Some.bundle) c.self.view_is c.answer-answer.ensures c.bundle.ensures c.in-Some.is in
    room-for c.self.inside.limits c.self.inside.places.items c.self.inside.peers.items c.args.link c.in-Some.bundle _ _ (key_seen c.args.key.now) c.self.invariant.sound joined c.self.inside.peers.ok.0 c.self.invariant.room new

pub index_mut-requires-in-Some : goal.index_mut-requires-in-Some
index_mut-requires-in-Some c =
    let joined = answer-to _ c.args.self.now (key_seen c.args.key.now) c.answer-answer.result c.bundle.result (Some c.in-Some.bundle) c.self.view_is c.answer-answer.ensures c.bundle.ensures c.in-Some.is in
    let within = (allows-answer c.args.link (key_seen c.args.key.now) _ c.self.invariant.sound).within c.in-Some.bundle joined in
    omega (arith, within, c.from-in-Some.ensures, c.self.invariant.controls.size, c.self.inside.controls.ok.0)

there : (c : goal.After-self-in-Some-1) → IsJoined c.self.inside.limits c.self.inside.places.items
    (set c.self.inside.places.items (c.from.result - 1) (Some (record { bundle = c.in-Some.bundle; key = c.args.key.now; marked = false })))
    (peers_seen c.self.inside.peers.items) (peers_seen c.remember.new.peers.items) (set c.self.inside.controls.items c.from-in-Some.result c.control_in.result) c.args.link (key_seen c.args.key.now)
there c =
    let joined = answer-to _ c.args.self.now (key_seen c.args.key.now) c.answer-answer.result c.bundle.result (Some c.in-Some.bundle) c.self.view_is c.answer-answer.ensures c.bundle.ensures c.in-Some.is in
    joined-is c.self.inside.limits c.self.inside.places.items c.as_slice.result.now (peers_seen c.self.inside.peers.items) (peers_seen c.remember.new.peers.items) c.self.inside.controls.items
    c.args.link c.from.result c.in-Some.bundle c.from-in-Some.result c.args.key.now c.control_in.result c.from.ensures c.from-in-Some.ensures c.self.invariant.sound c.self.invariant.controls
    (ap (bundle_at c.args.link) c.self.view_is ∙ c.requires.single) joined c.remember.ensures.value c.as_slice.ensures.value c.control_in.ensures

pub invariant_of-self : goal.invariant_of-self
invariant_of-self c =
    let done = there c in
    record { sound = done.sound; controls = done.controls; room = omega (arith, c.remember.ensures.capacity, c.self.invariant.room) }

pub returns-in-Some-clause-table : goal.returns-in-Some-clause-table
returns-in-Some-clause-table c = (there c).seen ∙ ap (joined_as c.args.link (key_seen c.args.key.now)) c.self.view_is

pub returns-in-Some-clause-within : goal.returns-in-Some-clause-within
returns-in-Some-clause-within c =
    joins-within c.answer-answer.result c.args.link (key_seen c.args.key.now) c.args.self.now c.answer-answer.ensures (subst IsBundles c.self.view_is c.self.invariant.sound)
