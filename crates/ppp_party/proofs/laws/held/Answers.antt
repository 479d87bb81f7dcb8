use Rattle.ppp_party.proofs.HeldLemmas.{asks-held, begins-held, delivers-held, happens-held, loses-held, reboots-held, tells-held, tries-held, turned-held}
use Rattle.ppp_party.proofs.laws.held.Goals as goal

pub returns-clause-begins : goal.returns-clause-begins
returns-clause-begins c = begins-held

pub returns-clause-happens : goal.returns-clause-happens
returns-clause-happens c = happens-held

pub returns-clause-delivers : goal.returns-clause-delivers
returns-clause-delivers c = delivers-held

pub returns-clause-asks : goal.returns-clause-asks
returns-clause-asks c = asks-held

pub returns-clause-tells : goal.returns-clause-tells
returns-clause-tells c = tells-held

pub returns-clause-tries : goal.returns-clause-tries
returns-clause-tries c = tries-held

pub returns-clause-loses : goal.returns-clause-loses
returns-clause-loses c = loses-held

pub returns-clause-reboots : goal.returns-clause-reboots
returns-clause-reboots c = reboots-held

pub returns-clause-turned : goal.returns-clause-turned
returns-clause-turned c = turned-held
