use Rattle.std.proofs.Common.{◌≡◌, ◌∙◌, ◌+◌, ◌-◌, ◌*◌, ◌<◌, ◌≤◌, suc, length, map, drop, ap, sym, subst, arith, length-drop}
use Rattle.std.proofs.lemmas.List.{length-map}
use Rattle.ppp_bundle.specs.Bundles.{bit, mask}
use Rattle.ppp_station.specs.View.{is_idle_link}
use Rattle.ppp_station.proofs.ViewLemmas.{idle-next, mask-lt}
use Rattle.ppp_station.proofs.view.idle_links.Goals as goal

pub with_bit-links-requires : goal.with_bit-links-requires
with_bit-links-requires c =
    let ks = c.args.trunk.now.links in
    let size : length (map is_idle_link (drop c.links.link ks)) ≤ 15 =
    omega (arith, length-map (drop c.links.link ks) is_idle_link, length-drop c.links.link ks, c.links.invariant.most, c.links-test.true) in
    subst (λ n. n < 32768) (sym c.links.invariant.left) (mask-lt (map is_idle_link (drop c.links.link ks)) 15 size)

pub links-preserved : goal.links-preserved
links-preserved c =
    let ks = c.args.trunk.now.links in
    let e : suc (c.links.link - 1) ≡ c.links.link = omega (arith, c.links-test.true) in
    record {
      within = omega (arith, c.links.invariant.within);
      most = c.links.invariant.most;
      left = c.with_bit-links.ensures
          ∙ ap (λ b. bit b + 2 * c.links.links) c.is_idle.ensures
          ∙ ap (λ n. bit (is_idle_link c.link.result.now) + 2 * n) (c.links.invariant.left ∙ ap (λ n. mask (map is_idle_link (drop n ks))) (sym e))
          ∙ sym (idle-next ks (c.links.link - 1) c.link.result.now c.link.ensures);
    }
