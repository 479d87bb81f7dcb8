use Rattle.std.proofs.Common.{ap, arith, length}
use Rattle.ppp_station.specs.Station.{Station}
use Rattle.ppp_station.proofs.KeptLemmas.{stepped-station}
use Rattle.ppp_party.proofs.HeardLemmas.{taken-heard}
use Rattle.ppp_station.proofs.CountLemmas.{hears-count}
use Rattle.ppp_party.proofs.party.take.Goals as goal

pub link-requires-2 : goal.link-requires-2
link-requires-2 g c = (
  c.requires.link.0,
  omega (
    arith,
    c.requires.link.1,
    ap (λ (st : Station). length st.trunk.links) c.event.ensures.does.station,
    hears-count c.event.ensures.does.allowed c.args.link c.octets.result.now c.args.station.now.station c.args.word,
  ),
)

pub returns-clause-taken : goal.returns-clause-taken
returns-clause-taken g c = rw (← c.octets.ensures) (record {
  allowed = c.event.ensures.does.allowed;
  said = c.event.ensures.does.said;
  station = c.event.ensures.does.station;
  sent = c.event.ensures.does.sent;
})

pub returns-clause-whole : goal.returns-clause-whole
returns-clause-whole g c = stepped-station _ _ c.args.word c.args.station.now.station c.event.new.self.station _ c.requires.link c.requires.whole c.event.ensures.does

pub returns-clause-heard : goal.returns-clause-heard
returns-clause-heard g c k there =
    taken-heard k c.link.result.now c.link-2.result.now c.args.frame.now c.args.link c.args.word c.mark.result c.args.station.now.station c.event.new.self.station c.event.new.out c.octets.result.now
    c.event.ensures.does.allowed c.deframer.result.now _ c.of-states.result c.args.ledgers.now c.hear.new.self
    c.requires.whole c.requires.link there c.link.ensures c.octets.ensures c.event.ensures.does.station c.event.ensures.does.sent c.event.ensures.short c.link-2.ensures c.deframer.ensures c.lent_carried-lent.ensures
    c.of-states.ensures c.mark.ensures c.hear.ensures
