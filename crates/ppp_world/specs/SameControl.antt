-- Both ends of a bundle have the same control link.
use Rattle.std.specs.Prelude.{◌≡◌, ◌≤◌, ℕ, Some}
use Rattle.ppp_bundle.specs.Bundles.{bundle_at, control_of}
use Rattle.ppp_party.specs.Party.{Ends}
use Rattle.ppp_trunk.specs.Phases.{IsTrunk}

-- a bundle of the first end and one of the other hold the same links
pub record AreShared (x y : ℕ) (e : Ends) : Type 0 where
  pub there : (l : ℕ) → 1 ≤ l → bundle_at l e.own.trunk.bundles ≡ Some x → bundle_at l e.other.trunk.bundles ≡ Some y
  pub back : (l : ℕ) → 1 ≤ l → bundle_at l e.other.trunk.bundles ≡ Some y → bundle_at l e.own.trunk.bundles ≡ Some x

-- then both have the same control link
abbrev pub SameControl : Ends → Type 0
SameControl e = (x y : ℕ) → AreShared x y e → control_of x e.own.trunk.bundles ≡ control_of y e.other.trunk.bundles

-- The trunks of both stand as they must: their links are joined by what LCP grants, and the control protocols are Up where they are to be
pub record AreTrunks (e : Ends) : Type 0 where
  pub own : IsTrunk e.own.trunk
  pub other : IsTrunk e.other.trunk
