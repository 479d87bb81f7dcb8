use Rattle.std.proofs.Common.{Some, None}
use Rattle.toml.proofs.Views.{table_get}
use Rattle.ppp_conf.proofs.UnknownLemmas.{members_in-is}
use Rattle.ppp_conf.proofs.unknown.inside.Goals as goal

pub returns-in-Some : goal.returns-in-Some
returns-in-Some c =
    rw (← table_get (Some c.in-Some.value) c.args.name.now _ c.in-Some.ensures.value) (members_in-is c.as_table.result _ c.as_table.ensures)

pub returns-in-None : goal.returns-in-None
returns-in-None c = rw (← table_get None c.args.name.now _ c.in-None.ensures.value)
