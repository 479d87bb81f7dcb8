use Rattle.std.proofs.Common.{◌∙◌, ◌+◌, ◌<◌, ap, length, sym, arith}
use Rattle.ppp_station.specs.Station.{Station}
use Rattle.ppp_world.specs.Outstanding.{ends_of, if_on_link}
use Rattle.ppp_world.proofs.SearchLemmas.{found-link, link-calls, link-control, link-none, next-link}
use Rattle.ppp_world.proofs.span.wider_among.Goals as goal

pub returns-in-Some : goal.returns-in-Some
returns-in-Some g c =
    let e = ends_of c.args.own.now.party c.args.other.now.party in
    let below : c.loop-i.i < length c.args.own.now.party.trunk.links = omega (arith, c.loop-i-test.true, c.links-i-end.ensures.count, ap (λ (st : Station). length st.trunk.links) c.station.ensures.station) in
    sym (c.loop-i.invariant.left ∙ found-link c.args.name _ c.loop-i.i e c.in-Some.fault below (link-control c.args.name _ e c.in-Some.fault (sym c.wider_at.ensures ∙ c.in-Some.is)))

pub returns-in-Some-on_link : goal.returns-in-Some-on_link
returns-in-Some-on_link g c =
    let e = ends_of c.args.own.now.party c.args.other.now.party in
    let below : c.loop-i.i < length c.args.own.now.party.trunk.links = omega (arith, c.loop-i-test.true, c.links-i-end.ensures.count, ap (λ (st : Station). length st.trunk.links) c.station.ensures.station) in
    let calls = ap (if_on_link (c.loop-i.i + 1)) (sym c.calls-calls.ensures) ∙ sym c.on_link.ensures ∙ c.in-Some-on_link.is in
    sym (c.loop-i.invariant.left ∙ found-link c.args.name _ c.loop-i.i e c.in-Some-on_link.fault below (link-calls c.args.name _ e c.in-Some-on_link.fault (sym c.wider_at.ensures ∙ c.in_default.is) calls))

pub loop-i-preserved : goal.loop-i-preserved
loop-i-preserved g c =
    let e = ends_of c.args.own.now.party c.args.other.now.party in
    let below : c.loop-i.i < length c.args.own.now.party.trunk.links = omega (arith, c.loop-i-test.true, c.links-i-end.ensures.count, ap (λ (st : Station). length st.trunk.links) c.station.ensures.station) in
    let calls = ap (if_on_link (c.loop-i.i + 1)) (sym c.calls-calls.ensures) ∙ sym c.on_link.ensures ∙ c.in_default-on_link.is in
    record { left = c.loop-i.invariant.left ∙ next-link c.args.name _ c.loop-i.i e below (link-none c.args.name _ e (sym c.wider_at.ensures ∙ c.in_default.is) calls) }
