-- Calls of std that a signal may interrupt.
use Rattle.std.specs.Prelude.{◌≡◌, ℕ, Result, Ok, Err}
use Rattle.std.specs.IoError.{error_kind}
use Rattle.std.specs.declared.io.Error.{Error}
use Rattle.std.specs.declared.io.ErrorKind.TheVariants.{Interrupted}

-- the call was interrupted
abbrev pub IsInterrupted : Result ℕ Error → Type 0
IsInterrupted (Ok count) = ⊥
IsInterrupted (Err error) = error_kind error ≡ Interrupted
