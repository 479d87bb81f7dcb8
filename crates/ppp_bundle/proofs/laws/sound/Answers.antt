use Rattle.ppp_bundle.proofs.BundlesLemmas.{sound-begun, sound-joined, sound-left, sound-marked, sound-numbered}
use Rattle.ppp_bundle.proofs.laws.sound.Goals as goal

pub returns-clause-begun : goal.returns-clause-begun
returns-clause-begun c = sound-begun

pub returns-clause-joins : goal.returns-clause-joins
returns-clause-joins c = sound-joined

pub returns-clause-leaves : goal.returns-clause-leaves
returns-clause-leaves c = sound-left

pub returns-clause-marks : goal.returns-clause-marks
returns-clause-marks c = sound-marked

pub returns-clause-numbered : goal.returns-clause-numbered
returns-clause-numbered c = sound-numbered
