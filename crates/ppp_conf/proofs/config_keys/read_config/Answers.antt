use Rattle.std.proofs.Common.{codes}
use Rattle.ppp_conf.specs.Config.{Settings}
use Rattle.ppp_conf.specs.declared.conf_why.ConfWhy.TheVariants.{Toml}
use Rattle.ppp_conf.proofs.ConfigLemmas.{config_of-some, config_of-none}
use Rattle.ppp_conf.proofs.RefusalLemmas.{IsRefusal-same}
use Rattle.ppp_conf.proofs.config_keys.read_config.Goals as goal

pub returns-in-Ok-clause-ok : goal.returns-in-Ok-clause-ok
returns-in-Ok-clause-ok c = rw (config_of-some _ _ c.in-Ok.ensures.ok.0 c.in-Ok.ensures.ok.1) c.read_document.ensures.ok

pub returns-in-Ok-clause-err : goal.returns-in-Ok-clause-err
returns-in-Ok-clause-err c = rw (config_of-some _ _ c.in-Ok.ensures.ok.0 c.in-Ok.ensures.ok.1) c.read_document.ensures.err

pub returns-else-is_memory-clause-err : goal.returns-else-is_memory-clause-err
returns-else-is_memory-clause-err c =
    rw (config_of-none c.args.text.now (c.in-Err.ensures.refused (λ memory. cc (c.is_memory.ensures.1 memory))))
    (IsRefusal-same Unit Settings (codes "-") Toml c.refused.result c.refused.ensures)
