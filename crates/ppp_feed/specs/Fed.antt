-- A station that is fed, and what it wrote so far.
use Rattle.std.specs.Prelude.{◌≡◌, ◌++◌, List, ℕ}
use Rattle.ppp_feed.specs.Feed.{Written}
use Rattle.ppp_station.specs.Station.{Station}

-- the station is as it is after this, and the lines of this are written behind the others
pub record Adds (did : Written) (old : Station) (begun : List ℕ) (new : Station) (all : List ℕ) : Type 0 where
  pub station : new ≡ did.station
  pub text : all ≡ begun ++ did.text
