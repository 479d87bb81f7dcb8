use Rattle.std.proofs.Common.{◌≡◌, arith, length, subst, sym}
use Rattle.ppp_party.specs.Party.{IsParty}
use Rattle.ppp_party.proofs.DoneLemmas.{begun-all, whole-begun}
use Rattle.ppp_station.proofs.KeptLemmas.{begun-station}
use Rattle.ppp_party.proofs.party.Party.new.Goals as goal

pub invariant_of-result : goal.invariant_of-result
invariant_of-result g c =
    let st = c.in_ok-station.station.station in
    let count : c.loop.counter ≡ length st.trunk.links = omega (arith, c.loop-test.false, c.loop.auto.counter-end, c.links-end.ensures.count) in
    subst IsParty (sym (begun-all st c.loop.counter c.loop.ledgers.items c.loop.incoming.items count c.loop.invariant.ledgers c.loop.invariant.incoming)) (whole-begun st (begun-station _ st c.in_ok-station.ensures.begins))

pub returns-clause-begun : goal.returns-clause-begun
returns-clause-begun g c =
    let st = c.in_ok-station.station.station in
    let count : c.loop.counter ≡ length st.trunk.links = omega (arith, c.loop-test.false, c.loop.auto.counter-end, c.links-end.ensures.count) in
    begun-all st c.loop.counter c.loop.ledgers.items c.loop.incoming.items count c.loop.invariant.ledgers c.loop.invariant.incoming

pub returns-clause-whole : goal.returns-clause-whole
returns-clause-whole g c =
    let st = c.in_ok-station.station.station in
    let count : c.loop.counter ≡ length st.trunk.links = omega (arith, c.loop-test.false, c.loop.auto.counter-end, c.links-end.ensures.count) in
    subst IsParty (sym (begun-all st c.loop.counter c.loop.ledgers.items c.loop.incoming.items count c.loop.invariant.ledgers c.loop.invariant.incoming)) (whole-begun st (begun-station _ st c.in_ok-station.ensures.begins))
