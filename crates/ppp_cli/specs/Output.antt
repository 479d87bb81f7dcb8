-- What writing an output comes to.
use Rattle.std.specs.Prelude.{◌≡◌, ℕ, ◌≤◌, ◌⊎◌, List, ◌++◌, Option}
use Rattle.ppp_io.specs.Account.{PutsOn}
use Rattle.ppp_io.specs.Fault.{Rose}
use Rattle.ppp_cli.specs.declared.status.Status.{Status}
use Rattle.ppp_cli.specs.declared.status.Status.TheVariants.{WriteFault}

-- a front of these octets is written
abbrev pub PutsFront : Option (List ℕ) → Option (List ℕ) → List ℕ → Type 0
PutsFront old new octets =
    (front : List ℕ) × (rest : List ℕ) × (front ++ rest ≡ octets) × PutsOn old new front

-- all is written and the status answered; or a write failed and a front is written
abbrev pub Finishes : Option (List ℕ) → Option (List ℕ) → ℕ → ℕ → Status → List ℕ → Status → Type 0
Finishes old new before now status octets result =
    ((result ≡ status) × PutsOn old new octets × (before ≤ now))
    ⊎ ((result ≡ WriteFault) × PutsFront old new octets × Rose before now × (before ≤ now))
