-- The line of a report on what an end asks its peer (after RFC 2125).
use Rattle.std.specs.Prelude.{ℕ, List, [], ◌++◌, Option, Some, None, Result, Ok, Err, ⊤, codes}
use Rattle.std.specs.Fmt.{decimal}
use Rattle.ppp_bap.specs.declared.ask_refused.AskRefused.{AskRefused}
use Rattle.ppp_bap.specs.declared.ask_refused.AskRefused.TheVariants.{NotOpen, Waiting, Full, NotJoined, NoNumber, Promised, LastLink}
use Rattle.ppp_bap.specs.declared.bap_ask.BapAsk.{BapAsk}
use Rattle.ppp_bap.specs.declared.bap_ask.BapAsk.TheVariants as ask
use Rattle.ppp_script.specs.End.{end_name}
use Rattle.ppp_script.specs.declared.end.End.{End}

-- what is asked
abbrev pub ask_text : BapAsk → List ℕ
ask_text ask.Call = codes "call"
ask_text ask.Callback = codes "callback"
ask_text (ask.Drop l) = codes "drop " ++ decimal l

-- that it was sent, or why it wasn't
abbrev pub refused_text : AskRefused → List ℕ
refused_text NotOpen = codes "NotOpen"
refused_text Waiting = codes "Waiting"
refused_text (Full count) = codes "Full " ++ decimal count
refused_text (NotJoined l) = codes "NotJoined " ++ decimal l
refused_text (NoNumber l) = codes "NoNumber " ++ decimal l
refused_text (Promised l) = codes "Promised " ++ decimal l
refused_text (LastLink count) = codes "LastLink " ++ decimal count

abbrev pub answer_text : Result ⊤ AskRefused → List ℕ
answer_text (Ok sent) = codes "sent"
answer_text (Err why) = refused_text why

-- `ask K E WHAT RESULT`
unfoldable pub ask_line : ℕ → End → BapAsk → Result ⊤ AskRefused → List ℕ
ask_line k e what answer =
    codes "ask " ++ decimal k ++ codes " " ++ end_name e ++ codes " " ++ ask_text what ++ codes " " ++ answer_text answer ++ codes "\n"

abbrev pub ask_line_if : ℕ → End → BapAsk → Option (Result ⊤ AskRefused) → List ℕ
ask_line_if k e what None = []
ask_line_if k e what (Some answer) = ask_line k e what answer
