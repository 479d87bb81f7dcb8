-- Runs whose states are narrow.
use Rattle.std.specs.Prelude.{◌≡◌, List, [], ◌∷◌, ⊤}
use Rattle.ppp_duet.specs.Duet.{Duet, Event, Setup, Happening, Delivers, happens}
use Rattle.ppp_duet.specs.Span.{Narrow}

-- each state of the run is narrow
abbrev pub IsNarrowRun : Setup → Setup → List Event → Duet → Type 0
IsNarrowRun sa sb [] d = Narrow d
IsNarrowRun sa sb (e ∷ es) d = Narrow d × IsNarrowRun sa sb es (happens sa sb d e)

-- each state before a delivery is: that is all that is used
abbrev pub NarrowIfTaken : Happening → Duet → Type 0
NarrowIfTaken what d = what ≡ Delivers → Narrow d

abbrev pub IsNarrowWhereTaken : Setup → Setup → List Event → Duet → Type 0
IsNarrowWhereTaken sa sb [] d = ⊤
IsNarrowWhereTaken sa sb (e ∷ es) d = NarrowIfTaken e.what d × IsNarrowWhereTaken sa sb es (happens sa sb d e)
