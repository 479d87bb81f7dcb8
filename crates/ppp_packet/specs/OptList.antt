-- Lists of options that are kept by value.
use Rattle.std.specs.Prelude.{◌<◌, ◌⊎◌, List, [], ◌∷◌, ◌++◌, length}
use Rattle.ppp_packet.specs.declared.opt_list.TheConstants.{MOST_LIST}
use Rattle.ppp_packet.specs.declared.options.TheConstants.{MOST_BODY}
use Rattle.ppp_packet.specs.ConfigOption.{ConfigOption}
use Rattle.ppp_packet.specs.Options.{written}

-- the option's body, or the list with the option behind it, would be too long
abbrev pub IsTooLong : List ConfigOption → ConfigOption → Type 0
IsTooLong list option =
    (MOST_BODY < length option.body) ⊎ (MOST_LIST < length (written (list ++ option ∷ [])))
