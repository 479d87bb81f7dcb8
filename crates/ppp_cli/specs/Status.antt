-- How a run of the program ended.
use Rattle.std.specs.Prelude.{ℕ, ⊤}
use Rattle.ppp_cli.specs.declared.status.Status.{Status}
use Rattle.ppp_cli.specs.declared.status.Status.TheVariants.{Ok as Fine, BadWords, ReadFault, TooLong, BadConfig, BadLine, Outstanding, WriteFault, Memory}

-- the number that the process exits with
abbrev pub code_of : Status → ℕ
code_of Fine = 0
code_of BadWords = 2
code_of ReadFault = 3
code_of TooLong = 4
code_of BadConfig = 5
code_of (BadLine line) = 6
code_of (Outstanding step) = 7
code_of WriteFault = 9
code_of Memory = 10

-- a status that the text of an input decides, once it was read to its end
abbrev pub IsOfText : Status → Type 0
IsOfText Fine = ⊤
IsOfText BadWords = ⊥
IsOfText ReadFault = ⊥
IsOfText TooLong = ⊥
IsOfText BadConfig = ⊤
IsOfText (BadLine line) = ⊤
IsOfText (Outstanding step) = ⊤
IsOfText WriteFault = ⊥
IsOfText Memory = ⊥

-- a status that the run of a script ends with: it was done to its end, or up to a step that is refused
abbrev pub IsOfRun : Status → Type 0
IsOfRun Fine = ⊤
IsOfRun BadWords = ⊥
IsOfRun ReadFault = ⊥
IsOfRun TooLong = ⊥
IsOfRun BadConfig = ⊥
IsOfRun (BadLine line) = ⊥
IsOfRun (Outstanding step) = ⊤
IsOfRun WriteFault = ⊥
IsOfRun Memory = ⊥
