use Rattle.std.proofs.Common.{refl}
use Rattle.ppp_conf.proofs.FieldsLemmas.{put_member-insert}
use Rattle.ppp_conf.proofs.fields.put.Goals as goal

pub returns-in-Ok : goal.returns-in-Ok
returns-in-Ok c =
    rw (c.in-Ok.ensures.entries, put_member-insert c.in_ok-key.key c.args.value c.args.table.now.entries, c.in_ok-key.ensures.ok) refl
