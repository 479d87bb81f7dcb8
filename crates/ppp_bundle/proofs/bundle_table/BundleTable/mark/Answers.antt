use Rattle.std.proofs.Common.{ap, set, Some, true, ◌-◌, ◌∙◌, sym, subst}
use Rattle.ppp_bundle.specs.BundleTable.{IsBundles, peers_seen}
use Rattle.ppp_bundle.specs.Bundles.{bundle_at, marked_at}
use Rattle.ppp_bundle.proofs.BundlesLemmas.{sound-marked}
use Rattle.ppp_bundle.proofs.TableLemmas.{IsMarked, link-place, marked-is, place-read}
use Rattle.ppp_bundle.proofs.bundle_table.BundleTable.mark.Goals as goal

marked : (c : goal.After-self-1) → IsMarked c.self.inside.limits c.self.inside.places.items
    (set c.self.inside.places.items (c.from-at.result - 1) (Some (record { bundle = c.args.bundle; key = c.in-Some.joined.key; marked = true })))
    (peers_seen c.self.inside.peers.items) c.self.inside.controls.items c.args.link
marked c =
    let n = c.self.inside.limits in
    let ps = c.self.inside.places.items in
    let peers = peers_seen c.self.inside.peers.items in
    let less = link-place n ps peers c.args.self.now c.args.link c.self.view_is c.self.invariant.sound c.requires.link in
    marked-is n ps peers c.self.inside.controls.items c.args.link c.from-at.result c.args.bundle c.in-Some.joined c.from-at.ensures c.self.invariant.controls
    (place-read n ps peers c.args.link c.from-at.result c.in-Some.joined c.index.result.now c.from-at.ensures less c.index.ensures c.in-Some.is)
    (ap (bundle_at c.args.link) c.self.view_is ∙ c.requires.joined)

pub invariant_of-self : goal.invariant_of-self
invariant_of-self c =
    let done = marked c in
    record {
      sound = subst IsBundles (sym done.seen) (sound-marked c.args.link _ c.self.invariant.sound);
      controls = done.controls;
      room = c.self.invariant.room;
    }

pub returns-in-Some : goal.returns-in-Some
returns-in-Some c = (marked c).seen ∙ ap (marked_at c.args.link) c.self.view_is
