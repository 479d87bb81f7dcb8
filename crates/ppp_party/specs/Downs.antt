-- Lines of an end go down, one after the other.
use Rattle.std.specs.Prelude.{ℕ, zero, suc, ◌+◌, length}
use Rattle.ppp_station.specs.Station.{Station, moves}
use Rattle.ppp_trunk.specs.StationOut.{AreShort}
use Rattle.ppp_trunk.specs.Steps.{LineDown}

-- so many lines, from that number on: none of them sends a frame longer than the longest, each from the station before it
abbrev pub AreShortDowns : ℕ → ℕ → ℕ → Station → Type 0
AreShortDowns word zero l st = Unit {0}
AreShortDowns word (suc more) l st =
    AreShort (moves LineDown l st word).out.entries × AreShortDowns word more (l + 1) (moves LineDown l st word).station

-- all its lines
abbrev pub AllShortDowns : ℕ → Station → Type 0
AllShortDowns word st = AreShortDowns word (length st.trunk.links) 1 st
