-- The reading of frames that go out.
use Rattle.std.specs.Prelude.{◌≡◌}
use Rattle.ppp_frame.specs.Deframer.{DeframerState}
use Rattle.ppp_trunk.specs.Orders.{open_reader}

-- a deframer reads both short headers
abbrev pub IsOpen : DeframerState → Type 0
IsOpen d = d.reader ≡ open_reader.reader
