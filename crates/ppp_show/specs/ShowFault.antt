-- Why a text of hex lines couldn't be shown.
use Rattle.std.specs.Prelude.{◌≡◌, ℕ, List, Result, Err, ⊤}
use Rattle.ppp_show.specs.declared.show_fault.ShowFault.{ShowFault}
use Rattle.ppp_show.specs.declared.show_fault.ShowFault.TheVariants.{Memory, Line}

-- this is the refusal of the text, or there wasn't enough memory
abbrev pub IsRefusal : Result (List ℕ) ℕ → ShowFault → Type 0
IsRefusal answer Memory = ⊤
IsRefusal answer (Line number) = answer ≡ Err number
