-- An automaton that may be there, as its table and as the definition's automaton.
use Rattle.std.specs.Prelude.{Option, option_map}
use Rattle.ppp_auto.specs.Auto.{Auto}

abbrev pub tables_in : {T : Type 0} → Option (T × Auto) → Option T
tables_in automaton = option_map (λ a. a.0) automaton

abbrev pub autos_in : {T : Type 0} → Option (T × Auto) → Option Auto
autos_in automaton = option_map (λ a. a.1) automaton
