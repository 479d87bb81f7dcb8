-- What the answer of a read says.
use Rattle.std.specs.Prelude.{◌≡◌, ℕ, ◌<◌, ◌≤◌, List, [], length, take, Option, ⊤}
use Rattle.ppp_io.specs.Fault.{one_more}
use Rattle.ppp_io.specs.Account.{TakesOff, IsDrained}
use Rattle.ppp_io.specs.declared.read_got.ReadGot.{ReadGot}
use Rattle.ppp_io.specs.declared.read_got.ReadGot.TheVariants.{Got, End, Failed}

-- a read gives at least one octet, and no more than the buffer has room for
abbrev pub ReadWithin : ReadGot → List ℕ → Type 0
ReadWithin (Got count) buf = (0 < count) × (count ≤ length buf)
ReadWithin End buf = ⊤
ReadWithin Failed buf = ⊤

-- the octets that it gives are taken off what is left, and at the end nothing is left
abbrev pub ReadTakes : Option (List ℕ) → Option (List ℕ) → ReadGot → List ℕ → Type 0
ReadTakes old new (Got count) buf = TakesOff old new (take count buf)
ReadTakes old new End buf = TakesOff old new [] × IsDrained new
ReadTakes old new Failed buf = TakesOff old new []

-- how many octets it gives, where it gives some
abbrev pub ReadGives : ReadGot → ℕ → Type 0
ReadGives (Got count) most = count ≡ most
ReadGives End most = ⊤
ReadGives Failed most = ⊤

-- a count of faults after a read: it goes up at a fault alone
abbrev pub faults_after_read : ReadGot → ℕ → ℕ
faults_after_read (Got count) faults = faults
faults_after_read End faults = faults
faults_after_read Failed faults = one_more faults
