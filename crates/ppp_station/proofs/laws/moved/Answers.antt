use Rattle.ppp_station.proofs.KeptLemmas.{moved-asks, moved-octets, moved-tells, moved-tries}
use Rattle.ppp_station.proofs.laws.moved.Goals as goal

pub returns-clause-octets : goal.returns-clause-octets
returns-clause-octets c = moved-octets

pub returns-clause-asks : goal.returns-clause-asks
returns-clause-asks c = moved-asks

pub returns-clause-tells : goal.returns-clause-tells
returns-clause-tells c = moved-tells

pub returns-clause-tries : goal.returns-clause-tries
returns-clause-tries c = moved-tries
