-- The codes of packets (RFC 1661 section 5): their numbers and their names.
use Rattle.std.specs.Prelude.{ℕ, ◌==◌, if◌then◌else◌, List, Option, Some, None, Result, codes}
use Rattle.std.specs.Option.{ok_or}
use Rattle.ppp_packet.specs.declared.code.Code.{Code}
use Rattle.ppp_packet.specs.declared.code.Code.TheVariants.{ConfigureRequest, ConfigureAck, ConfigureNak, ConfigureReject, TerminateRequest, TerminateAck, CodeReject, ProtocolReject, EchoRequest, EchoReply, DiscardRequest}
use Rattle.ppp_packet.specs.declared.code.UnknownCode.{UnknownCode}

abbrev pub code_number : Code → ℕ
code_number ConfigureRequest = 1
code_number ConfigureAck = 2
code_number ConfigureNak = 3
code_number ConfigureReject = 4
code_number TerminateRequest = 5
code_number TerminateAck = 6
code_number CodeReject = 7
code_number ProtocolReject = 8
code_number EchoRequest = 9
code_number EchoReply = 10
code_number DiscardRequest = 11

-- the code of a number: None where it is no code's
abbrev pub code_of : ℕ → Option Code
code_of n =
    if n == 1 then Some ConfigureRequest
    else if n == 2 then Some ConfigureAck
    else if n == 3 then Some ConfigureNak
    else if n == 4 then Some ConfigureReject
    else if n == 5 then Some TerminateRequest
    else if n == 6 then Some TerminateAck
    else if n == 7 then Some CodeReject
    else if n == 8 then Some ProtocolReject
    else if n == 9 then Some EchoRequest
    else if n == 10 then Some EchoReply
    else if n == 11 then Some DiscardRequest
    else None

-- what reading a number as a code answers
abbrev pub read_code : ℕ → Result Code UnknownCode
read_code n = ok_or (code_of n) (record { 0 = n })

abbrev pub code_name : Code → List ℕ
code_name ConfigureRequest = codes "Configure-Request"
code_name ConfigureAck = codes "Configure-Ack"
code_name ConfigureNak = codes "Configure-Nak"
code_name ConfigureReject = codes "Configure-Reject"
code_name TerminateRequest = codes "Terminate-Request"
code_name TerminateAck = codes "Terminate-Ack"
code_name CodeReject = codes "Code-Reject"
code_name ProtocolReject = codes "Protocol-Reject"
code_name EchoRequest = codes "Echo-Request"
code_name EchoReply = codes "Echo-Reply"
code_name DiscardRequest = codes "Discard-Request"
