use Rattle.ppp_packet.specs.Options.{option_with}
use Rattle.ppp_packet.proofs.OptionLemmas.{pushed_holds, pushed_list, length-written-push}
use Rattle.ppp_packet.proofs.opt_list.OptList.push.Goals as goal

pub invariant_of-self : goal.invariant_of-self
invariant_of-self c =
    pushed_holds c.push_octets.result c.self.inside.octets.items c.push_octets.new.octets.items (option_with c.args.kind c.args.body.now)
    c.self.invariant c.push_octets.ensures.ok c.push_octets.ensures.err

pub returns-clause-no_room : goal.returns-clause-no_room
returns-clause-no_room c =
    rw (← c.self.view_is, length-written-push c.self.inside.octets.items (option_with c.args.kind c.args.body.now) c.self.invariant) c.push_octets.ensures.no_room

pub returns-clause-ok : goal.returns-clause-ok
returns-clause-ok c =
    rw (← c.self.view_is) (pushed_list c.push_octets.result c.self.inside.octets.items c.push_octets.new.octets.items
    (option_with c.args.kind c.args.body.now) c.self.invariant c.push_octets.ensures.ok)
