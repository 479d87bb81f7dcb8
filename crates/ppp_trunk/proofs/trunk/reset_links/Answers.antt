use Rattle.std.proofs.Common.{◌++◌, ◌∷◌, [], add-one, ap, arith, length-set, ◌∙◌}
use Rattle.ppp_packet.specs.declared.proto.Proto.TheVariants.{Bacp}
use Rattle.ppp_link.specs.Link.{Link, link_begun}
use Rattle.ppp_link.specs.Proto.{nets}
use Rattle.ppp_trunk.specs.Trunk.{link_ready, opens_all}
use Rattle.ppp_trunk.proofs.TrunkLemmas.{reset-next}
use Rattle.ppp_trunk.proofs.trunk.reset_links.Goals as goal

pub loop-i-preserved : goal.loop-i-preserved
loop-i-preserved c =
    let ready = c.open_all.ensures ∙ ap (opens_all (nets ++ Bacp ∷ [])) (c.reset.ensures ∙ ap (λ (k : Link). link_begun k.tables) c.index_mut-link.ensures.value) in
    record {
      same = length-set c.loop-i.links.items c.loop-i.i c.open_all.new.link ∙ c.loop-i.invariant.same;
      left = rw add-one (
          reset-next (λ (k : Link). link_ready k.tables) c.args.links.now.items c.loop-i.links.items c.loop-i.i _ c.open_all.new.link
          (omega (arith, c.loop-i-test.true, c.loop-i.invariant.same, c.len-i-end.ensures, c.args.links.now.ok.0)) c.loop-i.invariant.left ready
          );
    }
