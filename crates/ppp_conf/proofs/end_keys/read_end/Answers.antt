use Rattle.std.proofs.Common.{refl}
use Rattle.ppp_conf.specs.Keys.{keys_seen}
use Rattle.ppp_conf.proofs.EndConfigLemmas.{end_of-read, read_end-whole, read_end-broken}
use Rattle.ppp_conf.proofs.end_keys.read_end.Goals as goal

pub returns-in-Some-clause-ok : goal.returns-in-Some-clause-ok
returns-in-Some-clause-ok c =
    let is = end_of-read c.args.links (keys_seen c.args.keys.now) _ _ _ _ _ _ _ _ _ _ _ _ _ _ _ _ _ _ _ _ _ _ _ _ _ _
    c.in_ok-mru.ensures.ok c.in_ok-accm.ensures.ok c.in_ok-magic.ensures.ok c.in_ok-pfc.ensures.ok
    c.in_ok-acfc.ensures.ok c.in_ok-mrru.ensures.ok c.in_ok-short.ensures.ok c.in_ok-classes.ensures.ok
    c.in_ok-disc.ensures.ok c.in_ok-link_disc.ensures.ok c.in_ok-favored.ensures.ok c.in_ok-bap.ensures.ok
    c.in_ok-protocols.ensures.ok c.in_ok-ip.ensures.ok c.in_ok-give.ensures.ok c.in_ok-ifid.ensures.ok
    c.in_ok-align.ensures.ok c.in_ok-fragment.ensures.ok c.in_ok-most.ensures.ok c.in_ok-least.ensures.ok
    c.in_ok-calls.ensures.ok c.in_ok-callbacks.ensures.ok c.in_ok-speed.ensures.ok c.in_ok-max_speed.ensures.ok
    c.in_ok-socket.ensures.ok c.in_ok-listen.ensures.ok in
    read_end-broken _ c.args.keys.now.prefix.now _ c.in-Some.name.now c.refused.result _ is c.in-Some.ensures c.refused.ensures

pub returns-in-None-clause-ok : goal.returns-in-None-clause-ok
returns-in-None-clause-ok c =
    let is = end_of-read c.args.links (keys_seen c.args.keys.now) _ _ _ _ _ _ _ _ _ _ _ _ _ _ _ _ _ _ _ _ _ _ _ _ _ _
    c.in_ok-mru.ensures.ok c.in_ok-accm.ensures.ok c.in_ok-magic.ensures.ok c.in_ok-pfc.ensures.ok
    c.in_ok-acfc.ensures.ok c.in_ok-mrru.ensures.ok c.in_ok-short.ensures.ok c.in_ok-classes.ensures.ok
    c.in_ok-disc.ensures.ok c.in_ok-link_disc.ensures.ok c.in_ok-favored.ensures.ok c.in_ok-bap.ensures.ok
    c.in_ok-protocols.ensures.ok c.in_ok-ip.ensures.ok c.in_ok-give.ensures.ok c.in_ok-ifid.ensures.ok
    c.in_ok-align.ensures.ok c.in_ok-fragment.ensures.ok c.in_ok-most.ensures.ok c.in_ok-least.ensures.ok
    c.in_ok-calls.ensures.ok c.in_ok-callbacks.ensures.ok c.in_ok-speed.ensures.ok c.in_ok-max_speed.ensures.ok
    c.in_ok-socket.ensures.ok c.in_ok-listen.ensures.ok in
    read_end-whole _ c.args.keys.now.prefix.now _ _ _ is c.in-None.ensures refl
