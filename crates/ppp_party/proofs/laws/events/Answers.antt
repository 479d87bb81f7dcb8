use Rattle.ppp_party.proofs.CameLemmas.{asks-came, delivers-came, happens-came, loses-came, tells-came, tries-came}
use Rattle.ppp_party.proofs.laws.events.Goals as goal

pub returns-clause-happens : goal.returns-clause-happens
returns-clause-happens c = happens-came

pub returns-clause-delivers : goal.returns-clause-delivers
returns-clause-delivers c = delivers-came

pub returns-clause-asks : goal.returns-clause-asks
returns-clause-asks c = asks-came

pub returns-clause-tells : goal.returns-clause-tells
returns-clause-tells c = tells-came

pub returns-clause-tries : goal.returns-clause-tries
returns-clause-tries c = tries-came

pub returns-clause-loses : goal.returns-clause-loses
returns-clause-loses c = loses-came
