-- What a response says (RFC 2125, response codes).
use Rattle.std.specs.Prelude.{ℕ, ◌==◌, if◌then◌else◌}
use Rattle.ppp_bap.specs.declared.response_code.ResponseCode.{ResponseCode}
use Rattle.ppp_bap.specs.declared.response_code.ResponseCode.TheVariants.{Ack, Nak, Rej, FullNak}

abbrev pub code_number : ResponseCode → ℕ
code_number Ack = 0
code_number Nak = 1
code_number Rej = 2
code_number FullNak = 3

-- another number counts as a Nak
abbrev pub read_code : ℕ → ResponseCode
read_code n =
    if n == 0 then Ack
    else if n == 2 then Rej
    else if n == 3 then FullNak
    else Nak
