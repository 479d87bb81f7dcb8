-- What happens at an end and brings no frame, in the words of a trunk's steps.
use Rattle.ppp_trunk.specs.Steps.{Happening, LineUp, LineDown, Opens, Closes, TimesOut}
use Rattle.ppp_party.specs.declared.happening.Happening.{Happening as Kept}
use Rattle.ppp_party.specs.declared.happening.Happening.TheVariants as kept

abbrev pub happening_seen : Kept → Happening
happening_seen kept.LineUp = LineUp
happening_seen kept.LineDown = LineDown
happening_seen (kept.Opens p) = Opens p
happening_seen (kept.Closes p) = Closes p
happening_seen (kept.TimesOut p) = TimesOut p
