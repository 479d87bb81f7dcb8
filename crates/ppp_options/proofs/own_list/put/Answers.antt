use Rattle.ppp_options.proofs.OwnListLemmas.{ok-with_room}
use Rattle.ppp_options.proofs.own_list.put.Goals as goal

pub unwrap-requires : goal.unwrap-requires
unwrap-requires c =
    ok-with_room c.push.result c.args.list.now c.args.kind c.args.body.now c.requires.room c.push.ensures.no_room
