use Rattle.std.proofs.Common.{subst}
use Rattle.std.specs.Prelude.{IsUtf8}
use Rattle.ppp_conf.proofs.ConfigTextLemmas.{config_of-printed, toml_of-printed}
use Rattle.ppp_conf.proofs.config_text.print_config.Goals as goal

pub returns : goal.returns
returns c =
    let printed =
    toml_of-printed c.args.config.now _ _ c.in_ok-table.ensures (subst IsUtf8 c.as_str-text.ensures.value c.as_str-text.utf8) c.in-Ok.ensures.reads_back in
    record { printed = printed; reads_back = config_of-printed c.args.config.now _ printed }
