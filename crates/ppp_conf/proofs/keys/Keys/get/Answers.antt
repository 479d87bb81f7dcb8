use Rattle.toml.proofs.Views.{table_get}
use Rattle.ppp_conf.proofs.keys.Keys.get.Goals as goal

pub returns-in-Some : goal.returns-in-Some
returns-in-Some c = rw c.in-Some.is (table_get c.get.result c.args.name.now _ c.get.ensures.value)
