use Rattle.std.proofs.Common.{◌≡◌, ◌∙◌, ◌+◌, ◌*◌, ◌-◌, ◌^◌, ap, arith, length, refl, subst, sym}
use Rattle.ppp_station.specs.Station.{Station}
use Rattle.ppp_trunk.specs.Steps.{LineDown}
use Rattle.ppp_trunk.specs.declared.station_out.TheConstants.{MOST_ENTRIES}
use Rattle.ppp_party.specs.Downs.{AreShortDowns}
use Rattle.ppp_party.specs.Party.{Ends, IsParty, Whole, downs, station_of}
use Rattle.ppp_party.proofs.PartyLemmas.{counted-above, downs-next, happens-other, happens-own, short-next}
use Rattle.ppp_party.proofs.party.Party.go_down.Goals as goal

pub loop-i-init : goal.loop-i-init
loop-i-init g c =
    let n = length c.args.self.now.party.trunk.links in
    let all : n ≡ n - 0 = omega arith in
    record {
      whole = subst (λ (w : Whole _). IsParty w.party) c.self.view_is c.self.invariant;
      whole_peer = c.requires.whole_peer;
      policy = refl;
      peer = refl;
      own = refl;
      other = refl;
      counted = λ k counted. counted-above k (k + 0 * MOST_ENTRIES) c.args.self.now.party (omega arith) counted;
      short = λ short. subst (λ n. AreShortDowns c.args.word n 1 (station_of c.args.self.now.party)) (sym all) short;
      left = ap (λ n. downs n 1 c.args.word (record { own = c.args.self.now.party; other = c.args.other.now.party })) (sym all);
    }

pub happen-requires-clause-few : goal.happen-requires-clause-few
happen-requires-clause-few g c =
    counted-above (2 ^ 61 + c.loop-i.i * MOST_ENTRIES) (2 ^ 62) c.loop-i.self.party (omega (arith, c.loop-i-test.true, c.links-i-end.ensures.most)) (c.loop-i.invariant.counted (2 ^ 61) c.requires.few)

pub loop-i-preserved : goal.loop-i-preserved
loop-i-preserved g c =
    let did = c.in_ok-happen.ensures in
    let kept = c.loop-i.invariant in
    let before : Ends = record { own = c.loop-i.self.party; other = c.loop-i.other.party } in
    let after : Ends = record { own = c.happen.new.self.party; other = c.happen.new.other.party } in
    let all = length c.args.self.now.party.trunk.links in
    let size = ap (λ (w : Whole _). length w.party.trunk.links) c.self.view_is in
    record {
      whole = c.happen.ensures.whole;
      whole_peer = c.happen.ensures.whole_peer;
      policy = c.happen.ensures.policy ∙ kept.policy;
      peer = c.happen.ensures.peer ∙ kept.peer;
      own = ap (λ (e : Ends). length e.own.trunk.links) did.done ∙ happens-own LineDown (c.loop-i.i + 1) c.args.word before ∙ kept.own;
      other = ap (λ (e : Ends). length e.other.trunk.links) did.done ∙ ap (λ (st : Station). length st.trunk.links) (happens-other LineDown (c.loop-i.i + 1) c.args.word before) ∙ kept.other;
      counted = λ n counted. counted-above (n + c.loop-i.i * MOST_ENTRIES + MOST_ENTRIES) (n + (c.loop-i.i + 1) * MOST_ENTRIES) c.happen.new.self.party (omega arith) (did.counted (n + c.loop-i.i * MOST_ENTRIES) (kept.counted n counted));
      short = λ rest. short-next all c.loop-i.i c.args.word (station_of c.args.self.now.party) before after (omega (arith, c.loop-i-test.true, c.links-i-end.ensures.count, size)) did.done c.happen.ensures.short kept.short rest;
      left = downs-next all c.loop-i.i c.args.word before after _ (omega (arith, c.loop-i-test.true, c.links-i-end.ensures.count, size)) did.done kept.left;
    }

pub returns-clause-counted : goal.returns-clause-counted
returns-clause-counted g c n all =
    counted-above (n + c.loop-i.i * MOST_ENTRIES) (n + 16 * MOST_ENTRIES) c.loop-i.self.party (omega (arith, c.loop-i-test.false, c.loop-i.auto.i-end, c.links-i-end.ensures.most)) (c.loop-i.invariant.counted n all)

pub returns-clause-short : goal.returns-clause-short
returns-clause-short g c =
    let none : 0 ≡ length c.args.self.now.party.trunk.links - c.loop-i.i = omega (arith, c.loop-i-test.false, c.links-i-end.ensures.count, ap (λ (w : Whole _). length w.party.trunk.links) c.self.view_is) in
    c.loop-i.invariant.short (subst (λ n. AreShortDowns c.args.word n (1 + c.loop-i.i) (station_of c.loop-i.self.party)) none tt)
