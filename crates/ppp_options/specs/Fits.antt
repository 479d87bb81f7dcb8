-- Which lists of two ends fit.
use Rattle.std.specs.Prelude.{List}
use Rattle.ppp_packet.specs.ConfigOption.{ConfigOption}

-- any two lists do
abbrev pub FitsAny : List ConfigOption → List ConfigOption → Type 0
FitsAny one other = Unit {0}
