-- The timers that a line names.
use Rattle.std.specs.Prelude.{ℕ, if◌then◌else◌, List, Result, Ok, bytes_eq, codes}
use Rattle.ppp_packet.specs.Proto.{proto_name}
use Rattle.ppp_script.specs.declared.line_why.LineWhy.{LineWhy}
use Rattle.ppp_script.specs.declared.timer.Timer.{Timer}
use Rattle.ppp_script.specs.declared.timer.Timer.TheVariants.{Restart, Bap}
use Rattle.ppp_script.specs.Field.{last_field, protocol_in}
use Rattle.ppp_script.specs.Results.{◌>>=◌}

abbrev pub timer_name : Timer → List ℕ
timer_name (Restart protocol) = proto_name protocol
timer_name Bap = codes "bap"

-- a timer, by its name
abbrev pub timer_in : List ℕ → Result Timer LineWhy
timer_in field =
    if bytes_eq field (codes "bap") then Ok Bap else protocol_in field >>= (λ protocol. Ok (Restart protocol))

-- `P` or `bap`, and no more
unfoldable pub last_timer : List (List ℕ) → Result Timer LineWhy
last_timer fields = last_field fields >>= timer_in
