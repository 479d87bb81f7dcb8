use Rattle.std.proofs.Common.{◌≡◌, ℕ, List, ◌++◌, length}
use Rattle.std.specs.Fmt.{HasWritten, IsPlainFormatter}
use Rattle.std.specs.List.{flat_map}
use Rattle.ppp_show.specs.RestText.{option_text, options_text}
use Rattle.ppp_show.proofs.rest_text.OptionsTextDisplay.fmt.Given as goal

-- what was written, and then the options left, is all
abbrev pub invariant-options : goal.invariant-options
invariant-options g l =
    IsPlainFormatter l.initial.f → (front : List ℕ) × HasWritten g.W.Write.write_str_gives l.initial.f front l.f
    × (front ++ flat_map option_text l.left ≡ options_text l.self.octets.now)

abbrev pub decreases-options : goal.decreases-options
decreases-options g l = length l.left
