-- What comes by a step of the links.
use Rattle.std.specs.Prelude.{◌≡◌, ℕ, true, List, Option, Some, None, ⊤}
use Rattle.std.specs.List.{AllByRecursion}
use Rattle.ppp_bundle.specs.Bundles.{bundle_at}
use Rattle.ppp_trunk.specs.StationOut.{Asked, Dial, Entry, Got, Hang, Push}
use Rattle.ppp_trunk.specs.Trunk.{Trunk}
use Rattle.ppp_station.specs.View.{is_live}

-- where one came on a link, BACP is Opened on the control link of its bundle
abbrev pub IsLive : Option ℕ → Trunk → Type 0
IsLive None t = ⊤
IsLive (Some b) t = is_live b t ≡ true

abbrev pub IsHeard : ℕ → Option (List ℕ) → Trunk → Type 0
IsHeard l None t = ⊤
IsHeard l (Some octets) t = IsLive (bundle_at l t.bundles) t

-- a datagram has no class, as none comes in fragments
abbrev pub IsBare : Entry → Type 0
IsBare (Got class protocol octets) = class ≡ None
IsBare (Push l octets) = ⊤
IsBare (Hang l) = ⊤
IsBare (Dial l) = ⊤
IsBare (Asked answer) = ⊤

abbrev pub AreBare : List Entry → Type 0
AreBare es = AllByRecursion IsBare es
