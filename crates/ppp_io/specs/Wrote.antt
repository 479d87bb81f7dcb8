-- What the answer of a write says.
use Rattle.std.specs.Prelude.{◌≡◌, ℕ, ◌<◌, ◌≤◌, List, [], length, take, Option, ⊤}
use Rattle.std.specs.Io.KnownBytes.{Appends, Keeps}
use Rattle.ppp_io.specs.Fault.{one_more}
use Rattle.ppp_io.specs.Account.{PutsOn}
use Rattle.ppp_io.specs.declared.wrote.Wrote.{Wrote}
use Rattle.ppp_io.specs.declared.wrote.Wrote.TheVariants.{Took, Failed}

-- a write takes at least one octet, and no more than the piece has
abbrev pub WriteWithin : Wrote → List ℕ → Type 0
WriteWithin (Took count) piece = (0 < count) × (count ≤ length piece)
WriteWithin Failed piece = ⊤

-- the octets that it takes are put behind what is held, and at a fault none
abbrev pub WritePuts : Option (List ℕ) → Option (List ℕ) → Wrote → List ℕ → Type 0
WritePuts old new (Took count) piece = PutsOn old new (take count piece)
WritePuts old new Failed piece = PutsOn old new []

-- what a writer of std holds, where it says: the octets that a write takes are appended, and at a fault it stays
abbrev pub WriterGets : Option (List ℕ) → Option (List ℕ) → Wrote → List ℕ → Type 0
WriterGets old new (Took count) piece = Appends old new (take count piece)
WriterGets old new Failed piece = Keeps old new

-- how many octets it takes, where it takes some
abbrev pub WriteFits : Wrote → ℕ → Type 0
WriteFits (Took count) most = count ≡ most
WriteFits Failed most = ⊤

-- a count of faults after a write: it goes up at a fault alone
abbrev pub faults_after_write : Wrote → ℕ → ℕ
faults_after_write (Took count) faults = faults
faults_after_write Failed faults = one_more faults
