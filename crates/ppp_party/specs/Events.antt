-- Steps as lists of the two ends' events, of which only the first may be a delivery, and none is that an end begins anew.
use Rattle.std.specs.Prelude.{◌≡◌, ⊤, List, [], ◌∷◌}
use Rattle.std.specs.List.{AllByRecursion}
use Rattle.ppp_duet.specs.Duet.{Duet, Event, Happening, Setup, Commands, SetsCap, RejectsProtocol, Delivers, Loses, Reboots, run}

-- what may follow within a step: no delivery, and no end begins anew
abbrev pub IsCaused : Happening → Type 0
IsCaused Delivers = ⊥
IsCaused (Commands event) = ⊤
IsCaused (SetsCap cap) = ⊤
IsCaused (RejectsProtocol id octets) = ⊤
IsCaused (Loses place) = ⊤
IsCaused Reboots = ⊥

abbrev pub AreCaused : List Event → Type 0
AreCaused es = AllByRecursion (λ e. IsCaused e.what) es

-- no end begins anew
abbrev pub IsNoReboot : Happening → Type 0
IsNoReboot Reboots = ⊥
IsNoReboot what = ⊤

abbrev pub DeliversFirst : List Event → Type 0
DeliversFirst [] = ⊤
DeliversFirst (e ∷ es) = IsNoReboot e.what × AreCaused es

-- events that deliver nothing lead from a state to another, and no end begins anew on the way
pub record Leads (sa sb : Setup) (before after : Duet) : Type 0 where
  pub events : List Event
  pub none : AreCaused events
  pub leads : run sa sb events before ≡ after

-- so do events of which the first may be a delivery
pub record Makes (sa sb : Setup) (before after : Duet) : Type 0 where
  pub events : List Event
  pub first : DeliversFirst events
  pub leads : run sa sb events before ≡ after
