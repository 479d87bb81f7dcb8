use Rattle.std.proofs.Common.{◌≡◌, ◌∷◌, [], add-one, ap, arith, length, length-append, ◌∙◌}
use Rattle.ppp_conf.specs.EndConfig.{end_seen}
use Rattle.ppp_trunk.specs.Trunk.{settings_in}
use Rattle.ppp_trunk.proofs.TrunkLemmas.{ready-snoc, settings-put}
use Rattle.ppp_trunk.proofs.trunk.ready_links.Goals as goal

pub loop-i-preserved : goal.loop-i-preserved
loop-i-preserved c =
    let put = c.in_ok-put.ensures in
    record {
      count = omega (arith, ap length put, length-append c.loop-i.links.items (c.in_ok-link.link ∷ []), c.loop-i.invariant.count);
      ready = rw put (ready-snoc c.loop-i.links.items c.in_ok-link.link c.loop-i.invariant.ready c.in_ok-link.ensures.ready);
      settings = rw add-one (
          ap settings_in put
          ∙ settings-put c.loop-i.links.items c.in_ok-link.link c.loop-i.i (end_seen c.args.config.now) c.loop-i.invariant.settings c.in_ok-link.ensures.settings
          );
    }

pub returns-clause-settings : goal.returns-clause-settings
returns-clause-settings c =
    let all : c.loop-i.i ≡ c.args.config.now.links = omega (arith, c.loop-i-test.false, c.loop-i.auto.i-end) in
    rw all at c.loop-i.invariant.settings
