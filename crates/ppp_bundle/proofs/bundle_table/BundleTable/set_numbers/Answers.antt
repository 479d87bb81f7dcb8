use Rattle.std.proofs.Common.{◌≡◌, length, ap, rules, sym, arith, ◌∙◌, subst}
use Rattle.ppp_bundle.specs.BundleTable.{IsBundles, peers_seen}
use Rattle.ppp_bundle.specs.Bundles.{renumbered, with_numbers}
use Rattle.ppp_bundle.proofs.BundlesLemmas.{sound-numbered}
use Rattle.ppp_bundle.proofs.TableLemmas.{controls-peers, first-read, peer-read, table_of}
use Rattle.ppp_bundle.proofs.bundle_table.BundleTable.set_numbers.Goals as goal

seen : (c : goal.After-renumber) → table_of c.self.inside.limits c.self.inside.places.items (peers_seen c.renumber.new.peers.items) ≡ with_numbers c.args.bundle c.args.numbers (table_of c.self.inside.limits c.self.inside.places.items (peers_seen c.self.inside.peers.items))
seen c =
    ap (table_of c.self.inside.limits c.self.inside.places.items) (c.renumber.ensures.value ∙ ap (λ d. renumbered d c.args.numbers (peers_seen c.self.inside.peers.items))
    (sym (peer-read c.self.inside.limits c.self.inside.places.items c.as_slice.result.now (peers_seen c.self.inside.peers.items) c.args.bundle c.first_key.result c.in-Some.key c.as_slice.ensures.value c.first_key.ensures c.in-Some.is)))

pub invariant_of-self : goal.invariant_of-self
invariant_of-self c =
    let size : length c.args.numbers ≡ 16 = search rules in
    record {
      sound = subst IsBundles (sym (seen c)) (sound-numbered c.args.bundle c.args.numbers _ size c.self.invariant.sound);
      controls = controls-peers c.self.inside.controls.items _ (peers_seen c.renumber.new.peers.items) c.self.invariant.controls;
      room = omega (arith, c.renumber.ensures.capacity, c.self.invariant.room);
    }

pub returns-in-Some : goal.returns-in-Some
returns-in-Some c = seen c ∙ ap (with_numbers c.args.bundle c.args.numbers) c.self.view_is

pub returns-in_default : goal.returns-in_default
returns-in_default c =
    absurd (first-read c.self.inside.limits c.self.inside.places.items c.as_slice.result.now (peers_seen c.self.inside.peers.items) c.args.self.now c.args.bundle c.first_key.result c.as_slice.ensures.value c.first_key.ensures c.in_default.is c.self.view_is c.requires.linked)
