use Rattle.std.proofs.Common.{◌≡◌, ◌+◌, [], drop, arith, subst, sym}
use Rattle.std.proofs.lemmas.List.{drop_all}
use Rattle.ppp_conf.specs.EndConfig.{end_seen}
use Rattle.ppp_feed.proofs.FeedLemmas.{fed-first, fed-next, fed-all, fed-within, lines-counted, lines-left}
use Rattle.ppp_station.specs.Shipped.{IsShippedAs}
use Rattle.ppp_feed.proofs.fed.feed_with.Goals as goal

pub loop-i-init : goal.loop-i-init
loop-i-init g c = record {
  shipped = subst (λ policy. IsShippedAs (g.F.Policy.says policy) c.args.config.now.max_speed) (sym c.in_ok-fed.ensures.policy) c.requires.shipped;
  fed = fed-first (end_seen c.args.config.now) c.args.script.now c.in_ok-fed.fed.station.station _ c.in_ok-fed.ensures.begins c.in_ok-fed.ensures.text;
}

pub overflow_mul-k : goal.overflow_mul-k
overflow_mul-k g c = omega (arith, c.count-i-end.ensures.count, c.count-i-end.ensures.steps, lines-counted c.args.script.now)

pub take-requires : goal.take-requires
take-requires g c =
    fed-within (end_seen c.args.config.now) c.args.script.now (drop c.loop-i.i c.args.script.now) (c.loop-i.i + 1) c.loop-i.i c.loop-i.fed.station.station _ c.at.result.now c.requires.within c.at.ensures.line c.loop-i.invariant.fed

pub loop-i-preserved : goal.loop-i-preserved
loop-i-preserved g c = record {
  shipped = subst (λ policy. IsShippedAs (g.F.Policy.says policy) c.args.config.now.max_speed) (sym c.in_ok-take.ensures.policy) c.loop-i.invariant.shipped;
  fed = fed-next (end_seen c.args.config.now) c.args.script.now (drop c.loop-i.i c.args.script.now) (drop (c.loop-i.i + 1) c.args.script.now) c.at.result.now (c.loop-i.i + 1) c.loop-i.fed.station.station c.take.new.self.station.station _ _
      (lines-left c.args.script.now c.loop-i.i c.at.result.now c.at.ensures.line) (c.in_ok-take.ensures.adds c.args.config.now.max_speed c.loop-i.invariant.shipped) c.in_ok-take.ensures.count c.loop-i.invariant.fed;
}

pub returns : goal.returns
returns g c =
    let none : drop c.loop-i.i c.args.script.now ≡ [] = drop_all c.loop-i.i c.args.script.now (omega (arith, c.count-i-end.ensures.count, c.loop-i-test.false)) in
    rw c.into_octets.ensures (fed-all (end_seen c.args.config.now) c.args.script.now (c.loop-i.i + 1) c.loop-i.fed.station.station _ (rw none at c.loop-i.invariant.fed))
