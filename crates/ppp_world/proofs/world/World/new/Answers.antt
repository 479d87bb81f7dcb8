use Rattle.std.proofs.Common.{◌∙◌, sym}
use Rattle.ppp_conf.specs.Config.{config_seen}
use Rattle.ppp_party.specs.Party.{station_of}
use Rattle.ppp_world.proofs.MakesLemmas.{start-everywhere}
use Rattle.ppp_world.proofs.SoundLemmas.{sound-begun}
use Rattle.ppp_world.proofs.world.World.new.Goals as goal

pub invariant_of-result : goal.invariant_of-result
invariant_of-result g c =
    let e = c.in_ok-ends.ends.ends in
    let config = c.args.config.now in
    rw c.in_ok-ends.ensures.begun (sound-begun (config_seen config) (station_of e.own) (station_of e.other) (config.a_links ∙ sym config.b_links) c.in_ok-ends.ensures.begin)

pub returns-clause-starts : goal.returns-clause-starts
returns-clause-starts g c =
    let e = c.in_ok-ends.ends.ends in
    let config = c.args.config.now in
    let begin = c.in_ok-ends.ensures.begin in
    rw c.in_ok-ends.ensures.begun
    (start-everywhere (station_of e.own) (station_of e.other) begin.a.links.begun begin.b.links.begun
    (sound-begun (config_seen config) (station_of e.own) (station_of e.other) (config.a_links ∙ sym config.b_links) begin))
