-- A stream of octets, cut at its flags (RFC 1662 section 3.1).
use Rattle.std.specs.Prelude.{ℕ, ◌==◌, Bool, if◌then◌else◌, List, [], ◌∷◌, ◌++◌}
use Rattle.ppp_frame.specs.declared.escapes.TheConstants.{FLAG}

abbrev pub is_flag : ℕ → Bool
is_flag x = x == FLAG

-- the piece that a flag ends behind these octets: none where there are no octets
abbrev pub ended : List ℕ → List (List ℕ)
ended [] = []
ended (x ∷ xs) = (x ∷ xs) ∷ []

-- the octets since the last flag, one octet later
abbrev pub run_after : List ℕ → ℕ → List ℕ
run_after run x = if is_flag x then [] else run ++ x ∷ []

-- the pieces that end in a stream, where these octets came since the last flag
abbrev pub pieces_from : List ℕ → List ℕ → List (List ℕ)
pieces_from run [] = []
pieces_from run (x ∷ xs) = (if is_flag x then ended run else []) ++ pieces_from (run_after run x) xs

-- the octets after the last flag
abbrev pub unfinished_from : List ℕ → List ℕ → List ℕ
unfinished_from run [] = run
unfinished_from run (x ∷ xs) = unfinished_from (run_after run x) xs

-- the start of a stream counts as after a flag
abbrev pub pieces : List ℕ → List (List ℕ)
pieces stream = pieces_from [] stream

abbrev pub unfinished : List ℕ → List ℕ
unfinished stream = unfinished_from [] stream
