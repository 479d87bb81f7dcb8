-- Why a piece is discarded: the first of the causes that applies.
use Rattle.std.specs.Prelude.{◌≡◌, ◌≢◌, ℕ, ◌<◌, ◌≤◌, true, false, List, length}
use Rattle.ppp_frame.specs.declared.why.Why.{Why}
use Rattle.ppp_frame.specs.declared.why.Why.TheVariants.{Aborted, Oversize, Short, BadFcs, BadHeader}
use Rattle.ppp_frame.specs.Escapes.{escaped_after, unstuffed}
use Rattle.ppp_frame.specs.Fcs.{checked}
use Rattle.ppp_frame.specs.Header.{Headed}
use Rattle.ppp_frame.specs.Verdict.{Reader}

-- no escape is left open, and the octets pass no limit
abbrev pub ComesWhole : Reader → List ℕ → Type 0
ComesWhole r piece = (escaped_after false piece ≡ false) × (length (unstuffed false piece) ≤ r.limit)

-- the piece is discarded for this cause, and for none before it
abbrev pub IsDiscarded : Reader → List ℕ → Why → Type 0
IsDiscarded r piece Aborted = escaped_after false piece ≡ true
IsDiscarded r piece Oversize =
    (escaped_after false piece ≡ false) × (r.limit < length (unstuffed false piece))
IsDiscarded r piece Short = ComesWhole r piece × (length (unstuffed false piece) < 4)
IsDiscarded r piece BadFcs =
    ComesWhole r piece × (4 ≤ length (unstuffed false piece))
    × ((octets : List ℕ) → unstuffed false piece ≢ checked octets)
IsDiscarded r piece BadHeader =
    ComesWhole r piece × (4 ≤ length (unstuffed false piece))
    × ((octets : List ℕ) × (unstuffed false piece ≡ checked octets)
    × ((protocol : ℕ) (info : List ℕ) → Headed r.ac r.pf protocol info octets → ⊥))
