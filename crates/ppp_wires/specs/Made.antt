-- The record of a net: its calls, each with what it was given and what it answered.
use Rattle.std.specs.Prelude.{ℕ, Bool, List, take}
use Rattle.ppp_wires.specs.declared.wires.Wired.{Wired}
use Rattle.ppp_wires.specs.declared.wires.Pushed.{Pushed}
use Rattle.ppp_wires.specs.declared.wires.Polled.{Polled}
use Rattle.ppp_wires.specs.declared.wires.Polled.TheVariants.{Got, Quiet, Ended, Failed}

-- what a poll answered, with the octets that it gave
pub data Reading : Type 0 where
  Gave : (octets : List ℕ) → Reading
  WasQuiet : Reading
  WasEnded : Reading
  HasFailed : Reading

-- a call with its answer; of a poll's buffer its length stands here
pub data Made : Type 0 where
  Connect : (port : ℕ) (name : List ℕ) (listen : Bool) (answer : Wired) → Made
  Join : (link : ℕ) (answer : Wired) → Made
  Poll : (port size : ℕ) (reading : Reading) → Made
  Push : (port : ℕ) (octets : List ℕ) (answer : Pushed) → Made
  Hang : (port : ℕ) → Made

-- a poll's answer, with the octets that stand in its buffer
abbrev pub reading_of : Polled → List ℕ → Reading
reading_of (Got count) buf = Gave (take count buf)
reading_of Quiet buf = WasQuiet
reading_of Ended buf = WasEnded
reading_of Failed buf = HasFailed
