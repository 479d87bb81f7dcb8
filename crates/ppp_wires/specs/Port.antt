-- A port of a net in memory.
use Rattle.std.specs.Prelude.{ℕ, Bool, true, false, List, [], ◌++◌, drop, bytes_eq, Option, Some, None}

-- Free: it isn't connected; Calls: a caller of that name, not taken yet, and what it pushed; Joined: it is joined to that
-- other port; Left: the port that it was joined to hung up. What came and isn't polled yet waits
pub data Port : Type 0 where
  Free : Port
  Calls : (name pushed : List ℕ) → Port
  Joined : (other : ℕ) (waiting : List ℕ) → Port
  Left : (waiting : List ℕ) → Port

abbrev pub is_connected : Port → Bool
is_connected Free = false
is_connected (Calls name pushed) = true
is_connected (Joined other waiting) = true
is_connected (Left waiting) = true

-- whether the other end hung up
abbrev pub has_ended : Port → Bool
has_ended Free = false
has_ended (Calls name pushed) = false
has_ended (Joined other waiting) = false
has_ended (Left waiting) = true

-- whether it is a caller of this name that isn't taken yet
abbrev pub calls_as : List ℕ → Port → Bool
calls_as name Free = false
calls_as name (Calls own pushed) = bytes_eq own name
calls_as name (Joined other waiting) = false
calls_as name (Left waiting) = false

-- whether it is a caller that isn't taken yet
abbrev pub is_caller : Port → Bool
is_caller Free = false
is_caller (Calls name pushed) = true
is_caller (Joined other waiting) = false
is_caller (Left waiting) = false

-- the port that it is joined to
abbrev pub joined_to : Port → Option ℕ
joined_to Free = None
joined_to (Calls name pushed) = None
joined_to (Joined other waiting) = Some other
joined_to (Left waiting) = None

-- the octets that stand at it: of a caller what it pushed, else what waits to be polled
abbrev pub held : Port → List ℕ
held Free = []
held (Calls name pushed) = pushed
held (Joined other waiting) = waiting
held (Left waiting) = waiting

-- what waits to be polled at it
abbrev pub waiting_at : Port → List ℕ
waiting_at Free = []
waiting_at (Calls name pushed) = []
waiting_at (Joined other waiting) = waiting
waiting_at (Left waiting) = waiting

-- it with further octets behind those that stand at it
abbrev pub with_more : List ℕ → Port → Port
with_more octets Free = Free
with_more octets (Calls name pushed) = Calls name (pushed ++ octets)
with_more octets (Joined other waiting) = Joined other (waiting ++ octets)
with_more octets (Left waiting) = Left (waiting ++ octets)

-- it without the first of what waits
abbrev pub without_first : ℕ → Port → Port
without_first count Free = Free
without_first count (Calls name pushed) = Calls name pushed
without_first count (Joined other waiting) = Joined other (drop count waiting)
without_first count (Left waiting) = Left (drop count waiting)

-- it once the port that it is joined to hung up
abbrev pub left_alone : Port → Port
left_alone Free = Free
left_alone (Calls name pushed) = Calls name pushed
left_alone (Joined other waiting) = Left waiting
left_alone (Left waiting) = Left waiting
