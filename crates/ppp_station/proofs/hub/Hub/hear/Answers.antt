use Rattle.ppp_station.specs.Steps.{so_far}
use Rattle.ppp_station.proofs.StationLemmas.{heard-heard, heard-link, heard-station}
use Rattle.ppp_station.proofs.hub.Hub.hear.Goals as goal

pub take_bap-requires-clause-link : goal.take_bap-requires-clause-link
take_bap-requires-clause-link g c =
    heard-link c.args.link c.args.word c.args.octets.now (so_far c.args.self.now.trunk c.args.self.now.bap.requests c.args.out.now.entries)
    (so_far c.moves.new.self.trunk c.moves.new.self.bap.requests c.moves.new.out.entries) c.moves.ensures.done c.requires.link

pub take_bap-requires-clause-sound : goal.take_bap-requires-clause-sound
take_bap-requires-clause-sound g c =
    heard-station c.args.link c.args.word c.args.octets.now c.args.self.now.terms c.moves.new.self.terms c.args.self.now.trunk c.args.self.now.bap.requests c.args.out.now.entries
    (so_far c.moves.new.self.trunk c.moves.new.self.bap.requests c.moves.new.out.entries) c.moves.ensures.done c.requires.link c.requires.sound

pub take_bap-requires-clause-live : goal.take_bap-requires-clause-live
take_bap-requires-clause-live g c =
    heard-heard c.args.link c.args.word c.args.octets.now c.args.self.now.terms c.args.self.now.trunk c.args.self.now.bap.requests c.args.out.now.entries c.moves.new.self.told
    (so_far c.moves.new.self.trunk c.moves.new.self.bap.requests c.moves.new.out.entries) c.moves.ensures.done c.moves.ensures.told c.requires.link c.requires.sound
