use Rattle.std.proofs.Common.{◌≡◌, ◌∙◌, ◌+◌, ◌-◌, ◌<◌, ◌++◌, ℕ, suc, List, map, take, set, replicate, ap, subst, arith}
use Rattle.std.specs.Prelude.{None, Option, Some, slice_get}
use Rattle.ppp_link.specs.Link.{Link}
use Rattle.ppp_station.specs.View.{own_number, peer_number}
use Rattle.ppp_station.proofs.ViewLemmas.{numbers-next}
use Rattle.ppp_station.proofs.view.numbers_of.Goals as goal

-- one more number is put
put-next : (f : Link → Option ℕ) (ks : List Link) (i at : ℕ) (k : Link) (x : Option ℕ) (now : List (Option ℕ)) →
    now ≡ map f (take i ks) ++ replicate (16 - i) None → i < 16 → at ≡ i → slice_get ks (i + 1 - 1) ≡ Some k → x ≡ f k →
    set now at x ≡ map f (take (i + 1) ks) ++ replicate (16 - (i + 1)) None
put-next f ks i at k x now is lt e there value =
    let size : 16 - i ≡ suc (16 - (i + 1)) = omega (arith, lt) in
    let place : i + 1 - 1 ≡ i = omega arith in
    let next : suc i ≡ i + 1 = omega arith in
    ap (λ xs. set xs at x) (is ∙ ap (λ n. map f (take i ks) ++ replicate n None) size)
    ∙ ap (λ j. set (map f (take i ks) ++ replicate (suc (16 - (i + 1))) None) j x) e
    ∙ numbers-next f ks i (16 - (i + 1)) k x (subst (λ j. slice_get ks j ≡ Some k) place there) value
    ∙ ap (λ j. map f (take j ks) ++ replicate (16 - (i + 1)) None) next

pub loop-i-preserved : goal.loop-i-preserved
loop-i-preserved c =
    let lt : c.loop-i.i < 16 = omega (arith, c.loop-i-test.true, c.links-i-end.ensures.most) in
    record {
      own = put-next own_number c.args.trunk.now.links c.loop-i.i c.from.result c.link-link.result.now _ _ c.loop-i.invariant.own lt c.from.ensures c.link-link.ensures c.own_number.ensures;
      peer = put-next peer_number c.args.trunk.now.links c.loop-i.i c.from-in-loop-i.result c.link-link.result.now _ _ c.loop-i.invariant.peer lt c.from-in-loop-i.ensures c.link-link.ensures c.peer_number.ensures;
    }
