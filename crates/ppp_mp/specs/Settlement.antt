-- What a class settles: what it delivers and what it gives up (RFC 1990 section 4.1; the rule's points are this project's own).
use Rattle.std.specs.Prelude.{ℕ, zero, suc, ◌+◌, ◌*◌, ◌≤◌, min, ◌==◌, not, if◌then◌else◌, nat_le, nat_lt, List, [], ◌∷◌, ◌++◌, length}
use Rattle.ppp_mp.specs.Fragments.{Numbered}

-- the least number that isn't settled, and what is held from there on, in ascending number
pub record Row : Type 0 where
  pub next : ℕ
  pub held : List Numbered

-- What follows a fragment that begins a packet: a run up to the packet's end, another beginning, or a missing number.
pub data Run : Type 0 where
  Whole : (past : ℕ) (packet : List ℕ) (rest : List Numbered) → Run
  Again : (at : ℕ) (rest : List Numbered) → Run
  Gap : (at : ℕ) (rest : List Numbered) → Run

-- the run from number n on, where these octets of the packet came before
abbrev pub run_from : ℕ → List ℕ → List Numbered → Run
run_from n begun [] = Gap n []
run_from n begun (h ∷ hs) =
    if h.number == n then
    (if h.fragment.begins then Again n (h ∷ hs)
    else if h.fragment.ends then Whole (n + 1) (begun ++ h.fragment.payload) hs
    else run_from (n + 1) (begun ++ h.fragment.payload) hs)
    else Gap n (h ∷ hs)

-- what a point does: nothing, or another row, and the packet that it delivers
pub data Move : Type 0 where
  Still : Move
  To : (row : Row) (out : List (List ℕ)) → Move

-- a whole packet is delivered if it has at most `most` octets
abbrev pub given : ℕ → List ℕ → List (List ℕ)
given most packet = if nat_le (length packet) most then packet ∷ [] else []

-- A run to an end is delivered, one to another beginning is dropped, and so is one to a missing number that is below the
-- limit, which is one past the least of the links' last numbers.
abbrev pub by_run : ℕ → ℕ → Run → Move
by_run limit most (Whole past packet rest) = To (record { next = past; held = rest }) (given most packet)
by_run limit most (Again at rest) = To (record { next = at; held = rest }) []
by_run limit most (Gap at rest) = if nat_lt at limit then To (record { next = at; held = rest }) [] else Still

-- the run that a fragment of number n begins
abbrev pub run_of : ℕ → Numbered → List Numbered → Run
run_of n h hs =
    if h.fragment.ends then Whole (n + 1) h.fragment.payload hs else run_from (n + 1) h.fragment.payload hs

-- number n is held: it is dropped where it begins no packet
abbrev pub at_first : ℕ → ℕ → ℕ → Numbered → List Numbered → Move
at_first limit most n h hs =
    if not h.fragment.begins then To (record { next = n + 1; held = hs }) [] else by_run limit most (run_of n h hs)

-- number n is missing, and is given up below the limit: the next is the least one held, or the limit if that is less
abbrev pub least_held : ℕ → List Numbered → ℕ
least_held limit [] = limit
least_held limit (h ∷ hs) = min h.number limit

abbrev pub past_missing : ℕ → ℕ → List Numbered → Move
past_missing limit n held = if nat_lt n limit then To (record { next = least_held limit held; held = held }) [] else Still

-- the first point that applies
abbrev pub move : ℕ → ℕ → ℕ → List Numbered → Move
move limit most n [] = past_missing limit n []
move limit most n (h ∷ hs) = if h.number == n then at_first limit most n h hs else past_missing limit n (h ∷ hs)

-- in ascending number, from n on
abbrev pub AreRising : ℕ → List Numbered → Type 0
AreRising n [] = Unit {0}
AreRising n (h ∷ hs) = (n ≤ h.number) × AreRising (h.number + 1) hs

pub record Settled : Type 0 where
  pub row : Row
  pub out : List (List ℕ)

abbrev pub moved : (Row → Settled) → Row → Move → Settled
moved more r Still = record { row = r; out = [] }
moved more r (To s out) = record { row = (more s).row; out = out ++ (more s).out }

-- points one after the other, as long as one applies
abbrev pub settle : ℕ → ℕ → ℕ → Row → Settled
settle zero limit most r = record { row = r; out = [] }
settle (suc points) limit most r = moved (settle points limit most) r (move limit most r.next r.held)

-- so many points are enough
abbrev pub points_of : List Numbered → ℕ
points_of held = 2 * length held + 1

abbrev pub settled : ℕ → ℕ → Row → Settled
settled limit most r = settle (points_of r.held) limit most r
