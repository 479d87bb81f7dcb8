use Rattle.ppp_party.proofs.KeptLemmas.{asks-made, begins-kept, delivers-made, happens-made, loses-kept, reboots-kept, tells-made, tries-made, turned-kept}
use Rattle.ppp_party.proofs.laws.kept.Goals as goal

pub returns-clause-begins : goal.returns-clause-begins
returns-clause-begins c = begins-kept

pub returns-clause-happens : goal.returns-clause-happens
returns-clause-happens c sa sb p what l m word e k of least narrow quiet short = (happens-made sa sb p what l m word e k of least narrow quiet short).kept

pub returns-clause-delivers : goal.returns-clause-delivers
returns-clause-delivers c sa sb p says l m word e k well of least narrow short = (delivers-made sa sb p says l m word e k well of least narrow short).kept

pub returns-clause-asks : goal.returns-clause-asks
returns-clause-asks c sa sb p what l m word e k well of least narrow short = (asks-made sa sb p what l m word e k well of least narrow short).kept

pub returns-clause-tells : goal.returns-clause-tells
returns-clause-tells c sa sb p status l m word e k well of least narrow short = (tells-made sa sb p status l m word e k well of least narrow short).kept

pub returns-clause-tries : goal.returns-clause-tries
returns-clause-tries c sa sb p l m word e k well of least narrow short = (tries-made sa sb p l m word e k well of least narrow short).kept

pub returns-clause-loses : goal.returns-clause-loses
returns-clause-loses c = loses-kept

pub returns-clause-reboots : goal.returns-clause-reboots
returns-clause-reboots c = reboots-kept

pub returns-clause-turned : goal.returns-clause-turned
returns-clause-turned c = turned-kept
