-- What always holds of a station holds after what happens to one of its links.
use Rattle.std.proofs.Common.{ℕ, false, length}
use Rattle.ppp_trunk.specs.Trunk.{IsOfLink}
use Rattle.ppp_station.specs.Station.{IsStation, Station, moves}
use Rattle.ppp_station.specs.declared.station_event.StationEvent.TheVariants as event
use Rattle.ppp_station.proofs.KeptLemmas.{kept-station}
use Rattle.ppp_party.specs.Happening.{happening_seen}
use Rattle.ppp_party.specs.declared.happening.Happening.{Happening as Kept}
use Rattle.ppp_party.specs.declared.happening.Happening.TheVariants as kept

pub moves-whole : (what : Kept) (l : ℕ) (st : Station) (word : ℕ) → IsOfLink (length st.trunk.links) l → IsStation st → IsStation (moves (happening_seen what) l st word).station
moves-whole kept.LineUp l st word of is = kept-station false (event.Up l) st word of is
moves-whole kept.LineDown l st word of is = kept-station false (event.Down l) st word of is
moves-whole (kept.Opens p) l st word of is = kept-station false (event.AdminOpen l p) st word of is
moves-whole (kept.Closes p) l st word of is = kept-station false (event.AdminClose l p) st word of is
moves-whole (kept.TimesOut p) l st word of is = kept-station false (event.Timeout l p) st word of is
