use Rattle.std.proofs.Common.{refl}
use Rattle.toml.proofs.Views.{items_view-push}
use Rattle.ppp_conf.proofs.end_table.put_name.Goals as goal

pub returns-in_ok-push : goal.returns-in_ok-push
returns-in_ok-push c = rw (c.if-is_in.true, c.in_ok-push.ensures.items, items_view-push, c.in_ok-string.ensures) refl
