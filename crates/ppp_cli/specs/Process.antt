-- A run of the program as a process.
use Rattle.std.specs.Prelude.{◌≡◌, ℕ, ◌+◌, List, [], ◌∷◌, Option, None, IsSome, Result, Ok, Err}
use Rattle.std.specs.Process.{exit_status}
use Rattle.std.specs.Vec.Iter.{into_iter_items}
use Rattle.std.specs.declared.process.ExitCode.{ExitCode}
use Rattle.std.specs.declared.vec.IntoIter.{IntoIter}
use Rattle.ppp_io.specs.Account.{IsDrained}
use Rattle.ppp_io.specs.Fault.{Rose}
use Rattle.ppp_cli.specs.Answer.{Answers}
use Rattle.ppp_cli.specs.Input.{TakesAtMost, TakesTooMany}
use Rattle.ppp_cli.specs.Status.{code_of, IsOfText}
use Rattle.ppp_cli.specs.declared.command.Command.{Command}
use Rattle.ppp_cli.specs.declared.input.TheConstants.{MOST_OCTETS}
use Rattle.ppp_cli.specs.declared.status.Status.{Status}
use Rattle.ppp_cli.specs.declared.status.Status.TheVariants.{BadWords, ReadFault, TooLong, WriteFault}

-- all behind the first
abbrev pub behind_first : {W : Type 0} → List W → List W
behind_first [] = []
behind_first (name ∷ words) = words

-- the words behind the program's name: none where one of them isn't text
abbrev pub words_in : {W A E : Type 0} → Result (IntoIter W A) E → List W
words_in (Ok args) = behind_first (into_iter_items args)
words_in (Err error) = []

-- The status that a run may end with, as `ppp_run` has it: by what the source had left and the sink held, and by the
-- counts of their faults, each before the run and after it.
pub record MayEnd (command : Option Command) (left left' held held' : Option (List ℕ)) (read read' written written' : ℕ) (status : Status) : Type 0 where
  pub reply : Answers (Rose read read') command left held held' status
  pub words : status ≡ BadWords → command ≡ None
  pub unread : command ≡ None → left' ≡ left
  pub read_rose : status ≡ ReadFault → Rose read read'
  pub read_words : status ≡ ReadFault → IsSome command
  pub read_end : IsOfText status → IsDrained left'
  pub taken : TakesAtMost (MOST_OCTETS + 1) left left'
  pub long : status ≡ TooLong → TakesTooMany left left'
  pub write_rose : status ≡ WriteFault → Rose written written'

-- the process exits with the number of a status that the run may end with
abbrev pub ExitsBy : ExitCode → (Status → Type 0) → Type 0
ExitsBy code Ends = (status : Status) × (exit_status code ≡ code_of status) × Ends status
