-- The command of the program's words.
use Rattle.std.specs.Prelude.{ℕ, if◌then◌else◌, List, [], ◌∷◌, map, Option, Some, None, codes}
use Rattle.std.specs.Str.{bytes_eq}
use Rattle.std.specs.String.{string_bytes}
use Rattle.std.specs.declared.string.String.{String}
use Rattle.ppp_cli.specs.declared.command.Command.{Command}
use Rattle.ppp_cli.specs.declared.command.Command.TheVariants.{Replay, Feed, Show}

-- the command of a word
abbrev pub command_named : List ℕ → Option Command
command_named word =
    if bytes_eq word (codes "replay") then Some Replay
    else if bytes_eq word (codes "feed") then Some Feed
    else if bytes_eq word (codes "show") then Some Show
    else None

-- the command of the words behind the program's name: None where they are those of no command
abbrev pub command_of : List (List ℕ) → Option Command
command_of [] = None
command_of (word ∷ []) = command_named word
command_of (word ∷ more ∷ words) = None

abbrev pub command_in : {A : Type 0} → List (String A) → Option Command
command_in words = command_of (map string_bytes words)
