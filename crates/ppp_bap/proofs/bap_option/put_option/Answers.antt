use Rattle.ppp_options.proofs.OwnListLemmas.{ok-with_room}
use Rattle.ppp_bap.proofs.bap_option.put_option.Goals as goal

pub unwrap-requires : goal.unwrap-requires
unwrap-requires c =
    ok-with_room c.push.result c.args.options.now c.args.kind c.args.body.now c.requires c.push.ensures.no_room
