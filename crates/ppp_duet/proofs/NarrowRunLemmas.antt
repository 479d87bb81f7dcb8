-- Narrow runs and their parts.
use Rattle.std.proofs.Common.{◌≡◌, List, [], ◌∷◌, ◌++◌, refl}
use Rattle.ppp_duet.specs.Duet.{Duet, Setup, Event, happens, run}
use Rattle.ppp_duet.specs.NarrowRun.{IsNarrowRun, IsNarrowWhereTaken}

pub where_taken : (sa sb : Setup) (es : List Event) (d : Duet) → IsNarrowRun sa sb es d → IsNarrowWhereTaken sa sb es d
where_taken sa sb [] d h = tt
where_taken sa sb (e ∷ es) d h = ((λ _. h.0), where_taken sa sb es (happens sa sb d e) h.1)

pub run_append : (sa sb : Setup) (es fs : List Event) (d : Duet) → run sa sb (es ++ fs) d ≡ run sa sb fs (run sa sb es d)
run_append sa sb [] fs d = refl
run_append sa sb (e ∷ es) fs d = run_append sa sb es fs (happens sa sb d e)

pub narrow_front : (sa sb : Setup) (es fs : List Event) (d : Duet) → IsNarrowWhereTaken sa sb (es ++ fs) d → IsNarrowWhereTaken sa sb es d
narrow_front sa sb [] fs d h = tt
narrow_front sa sb (e ∷ es) fs d h = (h.0, narrow_front sa sb es fs (happens sa sb d e) h.1)

pub narrow_back : (sa sb : Setup) (es fs : List Event) (d : Duet) → IsNarrowWhereTaken sa sb (es ++ fs) d → IsNarrowWhereTaken sa sb fs (run sa sb es d)
narrow_back sa sb [] fs d h = h
narrow_back sa sb (e ∷ es) fs d h = narrow_back sa sb es fs (happens sa sb d e) h.1

pub narrow_append : (sa sb : Setup) (es fs : List Event) (d : Duet) → IsNarrowWhereTaken sa sb es d → IsNarrowWhereTaken sa sb fs (run sa sb es d) →
    IsNarrowWhereTaken sa sb (es ++ fs) d
narrow_append sa sb [] fs d h k = k
narrow_append sa sb (e ∷ es) fs d h k = (h.0, narrow_append sa sb es fs (happens sa sb d e) h.1 k)
