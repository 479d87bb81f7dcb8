use Rattle.std.proofs.Common.{subst, sym}
use Rattle.ppp_trunk.specs.Phases.{IsTrunk}
use Rattle.ppp_trunk.specs.StationOut.{Out}
use Rattle.ppp_station.specs.Heard.{AreBare}
use Rattle.ppp_station.proofs.BareLemmas.{event-bare}
use Rattle.ppp_station.proofs.SoundLemmas.{kept-event}
use Rattle.ppp_station.proofs.hub.Hub.moves.Goals as goal

pub settle-requires : goal.settle-requires
settle-requires g c = subst IsTrunk (sym c.event.ensures.trunk) (kept-event c.args.ev c.args.word c.args.self.now.trunk c.requires.link c.requires.trunk)

pub pass_on-requires-clause-bare : goal.pass_on-requires-clause-bare
pass_on-requires-clause-bare g c = subst (λ (o : Out). AreBare o.entries) (sym c.event.ensures.out) (event-bare c.args.ev c.args.word c.args.self.now.trunk)
