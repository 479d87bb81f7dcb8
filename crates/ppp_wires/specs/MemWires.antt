-- A net in memory whose listed calls fail, as contracts see it.
use Rattle.std.specs.Prelude.{ℕ, ◌≤◌, List, All, length, slice_index_or, slice_set, if◌then◌else◌, Bool}
use Rattle.ppp_io.specs.Fault.{greatest_count, one_more}
use Rattle.ppp_wires.specs.SureWires.{SureWiresState}

-- wires: the net; failing: the numbers of the calls that fail, from 1; made: how many calls there were; faults: how many
-- failed at each port
pub record MemWiresState : Type 0 where
  pub wires : SureWiresState
  pub failing : List ℕ
  pub made : ℕ
  pub faults : List ℕ

-- the count of a port
abbrev pub fault_at : List ℕ → ℕ → ℕ
fault_at faults port = slice_index_or faults port 0

-- the counts after a call at a port
abbrev pub faults_after : Bool → ℕ → List ℕ → List ℕ
faults_after failed port faults =
    if failed then slice_set faults port (one_more (fault_at faults port)) else faults

-- no count passes the greatest one
abbrev pub AreCounts : List ℕ → Type 0
AreCounts faults = All (λ count. count ≤ greatest_count) faults
