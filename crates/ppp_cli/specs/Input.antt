-- What reading an input comes to.
use Rattle.std.specs.Prelude.{◌≡◌, ℕ, ◌+◌, ◌≤◌, List, length, Option, ⊤}
use Rattle.ppp_io.specs.Account.{TakesOff, IsDrained}
use Rattle.ppp_io.specs.Fault.{Rose}
use Rattle.ppp_cli.specs.declared.input.Input.{Input}
use Rattle.ppp_cli.specs.declared.input.Input.TheVariants.{Text, TooLong, Failed, Memory}
use Rattle.ppp_cli.specs.declared.input.TheConstants.{MOST_OCTETS}

-- so many octets are taken at most
abbrev pub TakesAtMost : ℕ → Option (List ℕ) → Option (List ℕ) → Type 0
TakesAtMost most old new = (taken : List ℕ) × TakesOff old new taken × (length taken ≤ most)

-- one octet more is taken than an input has
abbrev pub TakesTooMany : Option (List ℕ) → Option (List ℕ) → Type 0
TakesTooMany old new = (taken : List ℕ) × TakesOff old new taken × (length taken ≡ MOST_OCTETS + 1)

-- the text was read to its end and is short enough; or so many octets were taken that it is too long; or a read failed
abbrev pub IsInput : Option (List ℕ) → Option (List ℕ) → ℕ → ℕ → Input → Type 0
IsInput old new before now (Text text) =
    TakesOff old new text.items × IsDrained new × (length text.items ≤ MOST_OCTETS)
IsInput old new before now TooLong = TakesTooMany old new
IsInput old new before now Failed = Rose before now
IsInput old new before now Memory = ⊤
