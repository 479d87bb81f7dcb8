use Rattle.std.proofs.Common.{◌-◌, length, refl, sym, ◌∙◌, ap, subst, arith, length-drop}
use Rattle.std.specs.String.{string_bytes}
use Rattle.std.proofs.lemmas.Bool.{eqb-true}
use Rattle.ppp_feed.proofs.FeedLemmas.{is_some, taken-first, taken-next, taken-all}
use Rattle.ppp_station.specs.Shipped.{IsShippedAs, allows_up_to}
use Rattle.ppp_feed.proofs.fed.Fed.take_octets.Goals as goal

pub frames-init : goal.frames-init
frames-init g c = record {
  policy = refl;
  count = refl;
  fuel = length c.args.octets.now;
  few = omega arith;
  taken = λ most known. taken-first (allows_up_to most) c.args.link c.args.word c.args.octets.now c.args.self.now.station.station (string_bytes c.args.self.now.text);
}

pub frames-smaller : goal.frames-smaller
frames-smaller g c =
    let some = is_some c.frames.rest.now c.frames-test.ensures in
    omega (arith, some, c.in_ok-used.ensures.within.0, c.in_ok-used.ensures.within.1 some, ap length c.split_at.ensures.back, length-drop c.in_ok-used.used c.frames.rest.now)

pub frames-preserved : goal.frames-preserved
frames-preserved g c =
    let some = is_some c.frames.rest.now c.frames-test.ensures in
    let fuel = c.frames.invariant.fuel in record {
      policy = c.in_ok-used.ensures.policy ∙ c.frames.invariant.policy;
      count = c.in_ok-used.ensures.count ∙ c.frames.invariant.count;
      fuel = fuel - 1;
      few = omega (arith, some, c.frames.invariant.few, c.in_ok-used.ensures.within.0, c.in_ok-used.ensures.within.1 some, ap length c.split_at.ensures.back, length-drop c.in_ok-used.used c.frames.rest.now);
      taken = λ most known.
          let here = subst (λ policy. IsShippedAs (g.F.Policy.says policy) most) (sym c.frames.invariant.policy) known in
          taken-next (allows_up_to most) fuel (fuel - 1) c.args.link c.args.word c.in_ok-used.used _ _ c.frames.self.station.station _ _ _ c.frames.rest.now _ (omega (arith, some, c.frames.invariant.few)) some
          (c.in_ok-used.ensures.adds most here) (c.in_ok-used.ensures.used most here) c.split_at.ensures.back (c.frames.invariant.taken most known);
    }

pub returns-clause-adds : goal.returns-clause-adds
returns-clause-adds g c = λ most known.
    taken-all (allows_up_to most) c.frames.invariant.fuel c.args.link c.args.word _ _ c.args.self.now.station.station _ _ c.frames.rest.now (eqb-true _ _ (sym c.frames-test.ensures)) (c.frames.invariant.taken most known)
