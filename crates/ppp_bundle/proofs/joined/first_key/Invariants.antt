use Rattle.std.proofs.Common.{◌≡◌, drop, map}
use Rattle.ppp_bundle.specs.BundleTable.{places_seen}
use Rattle.ppp_bundle.specs.Bundles.{first_some, key_in}
use Rattle.ppp_bundle.proofs.joined.first_key.Given as goal

abbrev pub invariant-loop-i : goal.invariant-loop-i
invariant-loop-i l = first_some (map (key_in l.bundle) (places_seen (drop l.i l.places))) ≡ first_some (map (key_in l.bundle) (places_seen l.places))
